use Rattle.swh_replies.proofs.Shapes.{one_shape}
use Rattle.swh_replies.proofs.laws.one_shape.Goals as goal

pub returns : goal.returns
returns c = one_shape
