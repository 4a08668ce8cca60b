use Rattle.swh_graph.proofs.OnePath.{one_entry_lem}
use Rattle.swh_graph.proofs.laws.one_entry.Goals as goal

pub returns : goal.returns
returns c bodies root components a b x y = one_entry_lem bodies components root a b x y
