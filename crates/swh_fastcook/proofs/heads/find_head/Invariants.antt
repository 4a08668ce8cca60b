use Rattle.std.specs.Prelude.{◌≡◌, ◌≢◌, ℕ, List, Contains, codes}
use Rattle.std.proofs.Common.{take}
use Rattle.swh_base.specs.Snapshot.{ToBranch}
use Rattle.swh_snpfmt.specs.declared.branch.SpelledBranch.{SpelledBranch}
use Rattle.swh_snpfmt.specs.Branches.{branch_of}
use Rattle.swh_fastcook.proofs.heads.find_head.Given as goal

abbrev pub invariant-loop-branch : goal.invariant-loop-branch
invariant-loop-branch l =
    (b : SpelledBranch) → Contains (take l.branch-index l.branches) b → (target : List ℕ) → (branch_of b).name ≡ codes "HEAD" → (branch_of b).target ≢ ToBranch target
