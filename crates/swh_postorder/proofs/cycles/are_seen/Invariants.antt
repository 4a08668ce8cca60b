use Rattle.std.specs.Prelude.{Contains}
use Rattle.std.proofs.Common.{take}
use Rattle.swh_base.specs.declared.name.Name.{Name}
use Rattle.swh_postorder.proofs.cycles.are_seen.Given as goal

abbrev pub invariant-loop-kid : goal.invariant-loop-kid
invariant-loop-kid l = (n : Name) → Contains (take l.kid-index l.kids) n → Contains l.before n
