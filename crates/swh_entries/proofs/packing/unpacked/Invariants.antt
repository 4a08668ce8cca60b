use Rattle.std.proofs.Common.{◌≡◌, take}
use Rattle.swh_entries.specs.Packing.{entries_of}
use Rattle.swh_entries.proofs.packing.unpacked.Given as goal

abbrev pub invariant-loop-slot : goal.invariant-loop-slot
invariant-loop-slot l = l.out.items ≡ entries_of l.leaves (take l.slot-index l.slots)
