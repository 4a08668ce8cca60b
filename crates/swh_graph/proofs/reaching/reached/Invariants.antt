use Rattle.swh_graph.proofs.Walks.{Walked}
use Rattle.swh_graph.proofs.reaching.reached.Given as goal

abbrev pub invariant-loop-place : goal.invariant-loop-place
invariant-loop-place g l = Walked (g.L.Graph.children_of l.look) l.fn.root l.place l.met
