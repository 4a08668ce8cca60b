use Rattle.std.proofs.Common.{◌≡◌, take}
use Rattle.swh_snpfmt.specs.Branches.{branch_views, branches_in_body}
use Rattle.swh_snpfmt.proofs.reading.owned.Given as goal

abbrev pub invariant-loop-branch : goal.invariant-loop-branch
invariant-loop-branch l = branch_views l.list.items ≡ branches_in_body (take l.branch-index l.spelled)
