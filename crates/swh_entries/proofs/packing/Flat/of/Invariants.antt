use Rattle.std.proofs.Common.{◌≡◌, length, take}
use Rattle.swh_entries.specs.Packing.{entries_of, ArePlaced}
use Rattle.swh_entries.proofs.packing.Flat.of.Given as goal

abbrev pub invariant-loop-e : goal.invariant-loop-e
invariant-loop-e l = record {
  placed : ArePlaced (length l.leaves.items) l.slots.items;
  same : entries_of l.leaves.items l.slots.items ≡ take l.e-index l.entries;
}
