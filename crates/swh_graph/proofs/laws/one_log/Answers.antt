use Rattle.swh_graph.proofs.OneLog.{one_log_lem}
use Rattle.swh_graph.proofs.laws.one_log.Goals as goal

pub returns : goal.returns
returns c bodies root limit a b x y = one_log_lem bodies root limit a b x y
