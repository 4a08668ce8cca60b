use Rattle.swh_fastload.proofs.InputLaws.{one_making}
use Rattle.swh_fastload.proofs.laws.same_making.Goals as goal

pub returns : goal.returns
returns c id head text m n h k = one_making id head text m n h k
