use Rattle.std.proofs.Common.{◌≡◌, ◌<◌, ℕ, get_or}
use Rattle.swh_outside.specs.Disk.{IsOutside}
use Rattle.swh_core.proofs.disk.is_image.Given as goal

abbrev pub invariant-loop-k : goal.invariant-loop-k
invariant-loop-k l = (i : ℕ) → i < l.k → IsOutside l.disk.ranges i → get_or l.image i 0 ≡ get_or l.disk.base i 0
