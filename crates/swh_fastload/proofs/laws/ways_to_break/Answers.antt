use Rattle.swh_fastload.proofs.InputLaws.{may_break}
use Rattle.swh_fastload.proofs.laws.ways_to_break.Goals as goal

pub returns : goal.returns
returns c id head text bad b = may_break id head text bad b
