use Rattle.std.proofs.Common.{◌≡◌, take}
use Rattle.std.specs.List.{filter_map}
use Rattle.swh_object.specs.Object.{directory_child}
use Rattle.swh_object.proofs.children.children_of_entries.Given as goal

abbrev pub invariant-loop-entry : goal.invariant-loop-entry
invariant-loop-entry l = l.kids.items ≡ filter_map directory_child (take l.entry-index l.entries)
