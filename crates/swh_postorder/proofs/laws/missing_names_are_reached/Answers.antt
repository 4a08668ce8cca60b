use Rattle.swh_postorder.proofs.Stops.{gap_reached}
use Rattle.swh_postorder.proofs.laws.missing_names_are_reached.Goals as goal

pub returns : goal.returns
returns c = gap_reached
