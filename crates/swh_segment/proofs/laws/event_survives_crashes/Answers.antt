use Rattle.swh_segment.proofs.EventsCrash.{event_moments}
use Rattle.swh_segment.proofs.laws.event_survives_crashes.Goals as goal

pub returns : goal.returns
returns c files h e store_end end bytes settled ready = event_moments files h e store_end end settled bytes ready
