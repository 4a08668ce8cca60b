use Rattle.std.specs.Prelude.{Contains, ◌↔◌, ◌⊎◌, []}
use Rattle.std.proofs.Common.{take}
use Rattle.swh_base.specs.declared.name.Name.{Name}
use Rattle.swh_fastcarried.specs.First.{IsOneOf, IsRootAt}
use Rattle.swh_fastcarried.proofs.roots.roots_of.Given as goal

abbrev pub invariant-loop-name : goal.invariant-loop-name
invariant-loop-name g l = (n : Name) → Contains l.roots.items n ↔ (Contains [] n ⊎ IsOneOf (IsRootAt (g.L.Look.archive l.look).bodies) (take l.name-index l.order) n)
