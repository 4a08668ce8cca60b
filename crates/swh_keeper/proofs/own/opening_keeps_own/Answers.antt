use Rattle.swh_keeper.proofs.OwnLemmas.{opening_moments}
use Rattle.swh_keeper.proofs.own.opening_keeps_own.Goals as goal

pub returns : goal.returns
returns c = opening_moments
