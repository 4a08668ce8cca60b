use Rattle.swh_segment.proofs.Crash.{making_moments}
use Rattle.swh_segment.proofs.laws.making_survives_crashes.Goals as goal

pub returns : goal.returns
returns c = making_moments
