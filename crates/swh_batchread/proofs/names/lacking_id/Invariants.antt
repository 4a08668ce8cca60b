use Rattle.std.proofs.Common.{take}
use Rattle.std.specs.List.{AllByRecursion}
use Rattle.swh_batchread.specs.RefSteps.{HasIdIn}
use Rattle.swh_batchread.proofs.names.lacking_id.Given as goal

-- the ids so far lead somewhere
abbrev pub invariant-loop-id : goal.invariant-loop-id
invariant-loop-id l = AllByRecursion (HasIdIn l.first.entries) (take l.id-index l.ids)
