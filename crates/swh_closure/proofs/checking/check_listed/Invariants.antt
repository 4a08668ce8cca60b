use Rattle.std.specs.Prelude.{Contains}
use Rattle.std.proofs.Common.{take}
use Rattle.swh_base.specs.declared.name.Name.{Name}
use Rattle.swh_base.specs.Reach.{IsCovered}
use Rattle.swh_closure.proofs.checking.check_listed.Given as goal

abbrev pub invariant-loop-kid : goal.invariant-loop-kid
invariant-loop-kid g l = (n : Name) → Contains (take l.kid-index l.kids) n → IsCovered l.closed l.names n
