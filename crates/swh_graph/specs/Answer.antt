-- What a call over the graph of an archive answers.
use Rattle.std.specs.Prelude.{ℕ}
use Rattle.swh_base.specs.declared.name.Name.{Name}
use Rattle.swh_graph.specs.declared.fault.GraphFault.{GraphFault}
use Rattle.swh_graph.specs.declared.fault.GraphFault.TheVariants.{NotHeld, NoPath, Memory}

-- a value, a name that is not held, or the number of the component that leads nowhere
pub data GraphAnswer (A : Type 0) : Type 0 where
  Found : A → GraphAnswer A
  Missing : Name → GraphAnswer A
  Nowhere : ℕ → GraphAnswer A

-- The fault tells the answer. It says nothing where memory ran out.
abbrev pub Refuses : {A : Type 0} → (GraphAnswer A → Type 0) → GraphFault → Type 0
Refuses IsAnswer (NotHeld name) = IsAnswer (Missing name)
Refuses IsAnswer (NoPath component) = IsAnswer (Nowhere component)
Refuses IsAnswer Memory = Unit {0}
