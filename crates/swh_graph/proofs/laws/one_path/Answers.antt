use Rattle.swh_graph.proofs.OnePath.{one_path_lem}
use Rattle.swh_graph.proofs.laws.one_path.Goals as goal

pub returns : goal.returns
returns c bodies root path a b x y = one_path_lem bodies root path a b x y
