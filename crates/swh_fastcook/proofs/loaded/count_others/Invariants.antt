use Rattle.std.proofs.Common.{◌≡◌, ◌≤◌, length, take}
use Rattle.swh_snpfmt.specs.Branches.{branches_in_body}
use Rattle.swh_fastcook.specs.Loaded.{without_head}
use Rattle.swh_fastcook.proofs.loaded.count_others.Given as goal

abbrev pub invariant-loop-branch : goal.invariant-loop-branch
invariant-loop-branch l = record {
  few : l.count ≤ l.branch-index;
  is : l.count ≡ length (without_head (branches_in_body (take l.branch-index l.branches)));
}
