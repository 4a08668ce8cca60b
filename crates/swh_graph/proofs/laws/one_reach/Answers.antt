use Rattle.swh_graph.proofs.OneReach.{one_reach_lem}
use Rattle.swh_graph.proofs.laws.one_reach.Goals as goal

pub returns : goal.returns
returns c bodies root a b x y = one_reach_lem bodies root a b x y
