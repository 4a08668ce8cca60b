use Rattle.swh_pathwalk.proofs.Trees.{some_walk}
use Rattle.swh_pathwalk.proofs.held_laws.path_walks_exist.Goals as goal

pub returns : goal.returns
returns c bodies children_of order name graph is there folder = some_walk bodies children_of graph order is name there folder
