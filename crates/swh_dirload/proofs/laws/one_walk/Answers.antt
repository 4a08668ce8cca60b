use Rattle.swh_dirload.proofs.OneWalk.{one_walk}
use Rattle.swh_dirload.proofs.laws.one_walk.Goals as goal

pub returns : goal.returns
returns c = one_walk
