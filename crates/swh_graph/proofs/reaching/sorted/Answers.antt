use Rattle.swh_graph.proofs.Walks.{ascends, same_names}
use Rattle.swh_graph.proofs.reaching.sorted.Goals as goal

pub returns-clause-ascending : goal.returns-clause-ascending
returns-clause-ascending c = ascends c.args.names.items c.sort_unstable.new.self.items c.sort_unstable.ensures.permutation c.requires c.sort_unstable.ensures.sorted

pub returns-clause-same : goal.returns-clause-same
returns-clause-same c = same_names c.args.names.items c.sort_unstable.new.self.items c.sort_unstable.ensures.permutation c.requires c.sort_unstable.ensures.sorted
