use Rattle.swh_postorder.proofs.Stops.{not_order_and_gap}
use Rattle.swh_postorder.proofs.laws.order_or_missing.Goals as goal

pub returns : goal.returns
returns c = not_order_and_gap
