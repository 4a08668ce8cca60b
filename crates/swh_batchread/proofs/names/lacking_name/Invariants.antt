use Rattle.std.proofs.Common.{Contains, take}
use Rattle.std.specs.List.{AllByRecursion}
use Rattle.swh_batchread.proofs.names.lacking_name.Given as goal

-- the children so far are among the names
abbrev pub invariant-loop-kid : goal.invariant-loop-kid
invariant-loop-kid l = AllByRecursion (Contains l.names) (take l.kid-index l.kids)
