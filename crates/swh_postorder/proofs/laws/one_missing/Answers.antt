use Rattle.swh_postorder.proofs.Stops.{one_gap}
use Rattle.swh_postorder.proofs.laws.one_missing.Goals as goal

pub returns : goal.returns
returns c = one_gap
