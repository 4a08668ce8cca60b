use Rattle.swh_postorder.proofs.Walks.{Walks, levels_of}
use Rattle.swh_postorder.proofs.walking.postorder.Given as goal

abbrev pub invariant-loop-round : goal.invariant-loop-round
invariant-loop-round g l = Walks (g.G.Graph.children_of l.graph) l.fn.root l.walk.entered (levels_of l.walk.frames.items) l.walk.left.items l._round
