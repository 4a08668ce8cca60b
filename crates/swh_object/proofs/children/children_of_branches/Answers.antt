use Rattle.std.proofs.Common.{arith}
use Rattle.swh_object.specs.Object.{snapshot_child}
use Rattle.swh_object.proofs.Gathered.{filter_map-more}
use Rattle.swh_object.proofs.children.children_of_branches.Goals as goal

pub loop-branch-preserved : goal.loop-branch-preserved
loop-branch-preserved c =
    let child = rw c.child_of_branch.ensures at c.in_ok-push_child.ensures in filter_map-more snapshot_child c.args.branches.now c.loop-branch.branch-index _ _ _ (omega arith) c.loop-branch.invariant child
