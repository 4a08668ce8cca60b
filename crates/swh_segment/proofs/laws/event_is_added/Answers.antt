use Rattle.swh_segment.proofs.EventsCrash.{event_settled}
use Rattle.swh_segment.proofs.laws.event_is_added.Goals as goal

pub returns : goal.returns
returns c files h e store_end end bytes settled ready = event_settled files h e store_end end settled bytes ready
