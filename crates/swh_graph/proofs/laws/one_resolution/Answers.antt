use Rattle.swh_graph.proofs.OneResolution.{one_resolution_lem}
use Rattle.swh_graph.proofs.laws.one_resolution.Goals as goal

pub returns : goal.returns
returns c bodies swhid a b x y = one_resolution_lem bodies swhid a b x y
