use Rattle.std.proofs.Common.{◌≡◌, take}
use Rattle.swh_memory_input.specs.Folders.{entries_of}
use Rattle.swh_memory_input.proofs.folder.copy_items.Given as goal

-- the items so far have the entries of the first ones
abbrev pub invariant-loop-item : goal.invariant-loop-item
invariant-loop-item l = entries_of l.copy.items ≡ take l.item-index (entries_of l.items)
