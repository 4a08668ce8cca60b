use Rattle.std.proofs.Common.{◌≡◌, take}
use Rattle.std.specs.List.{filter_map}
use Rattle.swh_object.specs.Object.{snapshot_child}
use Rattle.swh_object.proofs.children.children_of_branches.Given as goal

abbrev pub invariant-loop-branch : goal.invariant-loop-branch
invariant-loop-branch l = l.kids.items ≡ filter_map snapshot_child (take l.branch-index l.branches)
