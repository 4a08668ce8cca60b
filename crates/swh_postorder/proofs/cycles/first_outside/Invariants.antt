use Rattle.std.specs.Prelude.{Contains}
use Rattle.std.proofs.Common.{take}
use Rattle.swh_base.specs.declared.name.Name.{Name}
use Rattle.swh_postorder.proofs.cycles.first_outside.Given as goal

abbrev pub invariant-loop-name : goal.invariant-loop-name
invariant-loop-name l = (n : Name) → Contains (take l.name-index l.names) n → Contains l.set n
