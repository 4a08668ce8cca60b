use Rattle.swh_postorder.proofs.Orders.{order_front}
use Rattle.swh_postorder.proofs.laws.children_precede.Goals as goal

pub returns : goal.returns
returns c = order_front
