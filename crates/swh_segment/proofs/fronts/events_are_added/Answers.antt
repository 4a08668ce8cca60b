use Rattle.swh_segment.proofs.Moments.{all_added}
use Rattle.swh_segment.proofs.fronts.events_are_added.Goals as goal

pub returns : goal.returns
returns c files h more standing fits = all_added more h files standing fits
