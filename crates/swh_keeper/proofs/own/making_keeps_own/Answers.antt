use Rattle.swh_keeper.proofs.OwnLemmas.{making_moments}
use Rattle.swh_keeper.proofs.own.making_keeps_own.Goals as goal

pub returns : goal.returns
returns c = making_moments
