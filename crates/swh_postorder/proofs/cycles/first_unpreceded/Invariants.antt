use Rattle.std.specs.Prelude.{Contains, ◌↔◌}
use Rattle.std.proofs.Common.{take}
use Rattle.swh_base.specs.declared.name.Name.{Name}
use Rattle.swh_postorder.specs.Cycle.{ArePreceded}
use Rattle.swh_postorder.proofs.cycles.first_unpreceded.Given as goal

abbrev pub invariant-loop-name : goal.invariant-loop-name
invariant-loop-name g l = record {
  set : (n : Name) → Contains l.left n ↔ Contains (take l.name-index l.order) n;
  preceded : ArePreceded (g.G.Graph.children_of l.graph) (take l.name-index l.order);
}
