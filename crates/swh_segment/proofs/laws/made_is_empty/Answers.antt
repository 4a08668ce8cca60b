use Rattle.swh_segment.proofs.Crash.{made_empty}
use Rattle.swh_segment.proofs.laws.made_is_empty.Goals as goal

pub returns : goal.returns
returns c = made_empty
