use Rattle.swh_pathwalk.proofs.Trees.{one_walk}
use Rattle.swh_pathwalk.proofs.held_laws.one_path_walk.Goals as goal

pub returns : goal.returns
returns c = one_walk
