use Rattle.swh_segment.proofs.Moments.{safe_opening}
use Rattle.swh_segment.proofs.fronts.opening_survives_crashes.Goals as goal

pub returns : goal.returns
returns c files h sees stand = safe_opening files sees h stand
