use Rattle.std.proofs.Common.{◌≡◌, ◌≤◌, ◌<◌, ℕ, get_or, length, reverse, vec_len, vec_capacity}
use Rattle.swh_outside.specs.Disk.{IsOutside}
use Rattle.swh_memory_disk.proofs.ranges.settle.Given as goal

abbrev pub invariant-copies : goal.invariant-copies
invariant-copies l = record {
  size : length l.base.items ≡ length l.bytes;
  same : (k : ℕ) → k < length l.bytes → IsOutside (reverse l.ranges.items) k → get_or l.base.items k 0 ≡ get_or l.bytes k 0;
  capacity : vec_capacity l.fn.base ≤ vec_capacity l.base;
  ranges_capacity : vec_capacity l.ranges ≡ vec_capacity l.fn.ranges;
}

abbrev pub decreases-copies : goal.decreases-copies
decreases-copies l = vec_len l.ranges
