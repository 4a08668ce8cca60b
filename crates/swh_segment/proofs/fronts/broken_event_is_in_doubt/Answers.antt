use Rattle.swh_segment.proofs.Standings.{event_left}
use Rattle.swh_segment.proofs.fronts.broken_event_is_in_doubt.Goals as goal

pub returns : goal.returns
returns c files new h e standing fits breaks = event_left files h standing e fits new breaks
