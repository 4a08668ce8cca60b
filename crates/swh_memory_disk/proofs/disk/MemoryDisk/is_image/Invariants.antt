use Rattle.std.proofs.Common.{◌≡◌, ◌<◌, ℕ, get_or, reverse}
use Rattle.swh_outside.specs.Disk.{IsOutside}
use Rattle.swh_memory_disk.proofs.disk.MemoryDisk.is_image.Given as goal

abbrev pub invariant-loop-k : goal.invariant-loop-k
invariant-loop-k l = (i : ℕ) → i < l.k → IsOutside (reverse l.self.ranges.items) i → get_or l.image i 0 ≡ get_or l.self.base.items i 0
