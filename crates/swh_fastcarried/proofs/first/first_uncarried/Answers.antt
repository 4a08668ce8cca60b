use Rattle.std.proofs.Common.{List, sym, subst}
use Rattle.swh_base.specs.declared.name.Name.{Name}
use Rattle.swh_postorder.specs.Cycle.{ArePreceded}
use Rattle.swh_postorder.specs.Postorder.{Precedes}
use Rattle.swh_fastcarried.proofs.first.first_uncarried.Goals as goal

pub first_in-requires-clause-preceded : goal.first_in-requires-clause-preceded
first_in-requires-clause-preceded g c = subst (ArePreceded (g.L.Graph.children_of c.args.look.now)) (sym c.in_ok-reached.ensures.order) c.requires.preceded

pub first_in-requires-clause-once : goal.first_in-requires-clause-once
first_in-requires-clause-once g c = subst (λ (order : List Name). (n : Name) → Precedes order n n → ⊥) (sym c.in_ok-reached.ensures.order) c.requires.once
