use Rattle.swh_segment.proofs.Moments.{all_moments}
use Rattle.swh_segment.proofs.fronts.fronts_survive_crashes.Goals as goal

pub returns : goal.returns
returns c files h more standing fits = all_moments more h files standing fits
