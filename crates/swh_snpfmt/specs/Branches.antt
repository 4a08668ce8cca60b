-- Branches without where they lie: in memory of their own, or in a body.
use Rattle.std.specs.Prelude.{List, map}
use Rattle.swh_base.specs.Snapshot.{BranchTarget, ToObject, ToBranch, ToNothing, SnapshotBranch}
use Rattle.swh_snpfmt.specs.declared.branch.Target.{Target}
use Rattle.swh_snpfmt.specs.declared.branch.Target.TheVariants.{Object, Alias, Dangling}
use Rattle.swh_snpfmt.specs.declared.branch.Branch.{Branch}
use Rattle.swh_snpfmt.specs.declared.branch.SpelledTarget.{SpelledTarget}
use Rattle.swh_snpfmt.specs.declared.branch.SpelledTarget.TheVariants.{Object as SpelledObject, Alias as SpelledAlias, Dangling as SpelledDangling}
use Rattle.swh_snpfmt.specs.declared.branch.SpelledBranch.{SpelledBranch}

-- a target of its own, as the grammar's
abbrev pub target_view : Target → BranchTarget
target_view (Object name) = ToObject name
target_view (Alias name) = ToBranch name
target_view Dangling = ToNothing

-- a branch of its own, as the grammar's
abbrev pub branch_view : Branch → SnapshotBranch
branch_view b = record { name = b.name; target = target_view b.target }

-- branches of their own, as the grammar's
abbrev pub branch_views : List Branch → List SnapshotBranch
branch_views bs = map branch_view bs

-- a target that stands in a body, as the grammar's
abbrev pub target_spelled : SpelledTarget → BranchTarget
target_spelled (SpelledObject kind id) = ToObject (record { kind = kind; id = id.now })
target_spelled (SpelledAlias name) = ToBranch name.now
target_spelled SpelledDangling = ToNothing

-- a branch that stands in a body, as the grammar's
abbrev pub branch_of : SpelledBranch → SnapshotBranch
branch_of b = record { name = b.name.now; target = target_spelled b.target }

-- branches that stand in a body, as the grammar's
abbrev pub branches_in_body : List SpelledBranch → List SnapshotBranch
branches_in_body bs = map branch_of bs
