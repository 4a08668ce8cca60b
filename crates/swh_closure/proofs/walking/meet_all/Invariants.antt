use Rattle.std.proofs.Common.{take}
use Rattle.swh_closure.specs.Walk.{Meets}
use Rattle.swh_closure.proofs.walking.meet_all.Given as goal

abbrev pub invariant-loop-name : goal.invariant-loop-name
invariant-loop-name g l = Meets (g.G.Graph.children_of l.graph) l.closed (take l.name-index l.names) l.initial.met l.met
