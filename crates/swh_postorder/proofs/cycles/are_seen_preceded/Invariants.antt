use Rattle.std.proofs.Common.{take}
use Rattle.swh_postorder.specs.Cycle.{ArePreceded}
use Rattle.swh_postorder.proofs.cycles.are_seen_preceded.Given as goal

abbrev pub invariant-loop-place : goal.invariant-loop-place
invariant-loop-place g l = ArePreceded (g.G.Graph.children_of l.graph) (take l.place l.order)
