use Rattle.swh_postorder.proofs.Stops.{one_order}
use Rattle.swh_postorder.proofs.laws.one_postorder.Goals as goal

pub returns : goal.returns
returns c = one_order
