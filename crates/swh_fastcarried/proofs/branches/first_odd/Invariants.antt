use Rattle.std.specs.Prelude.{Contains}
use Rattle.std.proofs.Common.{take}
use Rattle.swh_snpfmt.specs.declared.branch.SpelledBranch.{SpelledBranch}
use Rattle.swh_snpfmt.specs.Branches.{branch_of}
use Rattle.swh_fastcarried.specs.Rules.{IsCarriedTarget}
use Rattle.swh_fastcarried.proofs.branches.first_odd.Given as goal

abbrev pub invariant-loop-branch : goal.invariant-loop-branch
invariant-loop-branch g l =
    (b : SpelledBranch) → Contains (take l.branch-index l.branches) b → IsCarriedTarget (g.L.Look.archive l.look).bodies (branch_of b).name (branch_of b).target
