use Rattle.swh_closure.proofs.Walks.{Walked}
use Rattle.swh_closure.proofs.walking.reached.Given as goal

abbrev pub invariant-loop-round : goal.invariant-loop-round
invariant-loop-round g l = Walked (g.G.Graph.children_of l.graph) l.closed l.fn.root l.met.names l.met.turns.items l._round
