use Rattle.std.proofs.Common.{List, sym, subst}
use Rattle.std.specs.Prelude.{Contains}
use Rattle.swh_base.specs.declared.name.Name.{Name}
use Rattle.swh_carried.proofs.order.acyclic_order.Goals as goal

pub returns-in-Ok-None-clause-acyclic : goal.returns-in-Ok-None-clause-acyclic
returns-in-Ok-None-clause-acyclic g c =
    let none = rw c.in-Ok-None.field-0-is at c.in-Ok-None.ensures.none in
    λ n there. none n (subst (λ (names : List Name). Contains names n) (sym c.as_slice.ensures.value) there)
