use Rattle.std.proofs.Common.{ap}
use Rattle.swh_recovery.specs.declared.harm.Found.{Found}
use Rattle.swh_recovery.proofs.OneHarm.{same_harm}
use Rattle.swh_recovery.proofs.laws.one_harm.Goals as goal

pub returns : goal.returns
returns c id_of ledger store file at file' at' harm harm' before before' a b =
    let one = same_harm id_of ledger store file at harm before file' at' harm' before' a b in
    (one.same_file, ap (λ (f : Found). f.at) one.same_found, ap (λ (f : Found). f.harm) one.same_found, one.same_events)
