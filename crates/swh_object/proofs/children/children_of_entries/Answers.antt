use Rattle.std.proofs.Common.{arith}
use Rattle.swh_object.specs.Object.{directory_child}
use Rattle.swh_object.proofs.Gathered.{filter_map-more}
use Rattle.swh_object.proofs.children.children_of_entries.Goals as goal

pub loop-entry-preserved : goal.loop-entry-preserved
loop-entry-preserved c =
    let child = rw c.child_of_entry.ensures at c.in_ok-push_child.ensures in filter_map-more directory_child c.args.entries.now c.loop-entry.entry-index _ _ _ (omega arith) c.loop-entry.invariant child
