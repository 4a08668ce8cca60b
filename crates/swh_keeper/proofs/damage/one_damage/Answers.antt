use Rattle.swh_keeper.proofs.DamageLemmas.{one_damage}
use Rattle.swh_keeper.proofs.damage.one_damage.Goals as goal

pub returns : goal.returns
returns c id_of ledger store file at file' at' harm harm' a b = one_damage id_of ledger store file at file' at' harm harm' a b
