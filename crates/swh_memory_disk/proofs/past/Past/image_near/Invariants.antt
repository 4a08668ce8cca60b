use Rattle.std.proofs.Common.{◌≡◌, ◌<◌, ℕ, get_or, length}
use Rattle.swh_memory_disk.specs.Past.{IsByteNear}
use Rattle.swh_memory_disk.proofs.past.Past.image_near.Given as goal

abbrev pub invariant-loop-k : goal.invariant-loop-k
invariant-loop-k l = record {
  size : length l.image.items ≡ l.k;
  each : (i : ℕ) → i < l.k → IsByteNear l.self.base.items l.self.ranges.items l.choice i (get_or l.image.items i 0);
}
