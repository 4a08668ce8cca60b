use Rattle.std.specs.Prelude.{Contains}
use Rattle.std.proofs.Common.{take}
use Rattle.swh_base.specs.declared.name.Name.{Name}
use Rattle.swh_base.specs.Reach.{IsHeldIn, IsChildIn, IsCovered}
use Rattle.swh_closure.proofs.checking.check.Given as goal

abbrev pub invariant-loop-name : goal.invariant-loop-name
invariant-loop-name g l =
    (n : Name) → Contains (take l.name-index l.names) n
    → IsHeldIn (g.G.Graph.children_of l.graph) n × ((child : Name) → IsChildIn (g.G.Graph.children_of l.graph) n child → IsCovered l.closed l.names child)
