use Rattle.std.proofs.Common.{refl}
use Rattle.swh_format.specs.Record.{framed}
use Rattle.swh_format.proofs.laws.worked_bytes.Goals as goal

pub returns : goal.returns
unfolding framed
returns c = refl
