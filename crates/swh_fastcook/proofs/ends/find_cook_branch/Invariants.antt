use Rattle.std.specs.Prelude.{◌≢◌, Contains}
use Rattle.std.proofs.Common.{take}
use Rattle.swh_fastwrite.specs.Text.{cook_branch}
use Rattle.swh_snpfmt.specs.declared.branch.SpelledBranch.{SpelledBranch}
use Rattle.swh_fastcook.proofs.ends.find_cook_branch.Given as goal

abbrev pub invariant-loop-branch : goal.invariant-loop-branch
invariant-loop-branch l = (b : SpelledBranch) → Contains (take l.branch-index l.branches) b → b.name.now ≢ cook_branch
