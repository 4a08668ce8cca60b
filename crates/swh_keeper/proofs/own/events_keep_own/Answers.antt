use Rattle.swh_keeper.proofs.OwnLemmas.{event_moments_own}
use Rattle.swh_keeper.proofs.own.events_keep_own.Goals as goal

pub returns : goal.returns
returns c = event_moments_own
