use Rattle.std.proofs.Common.{take, reverse}
use Rattle.swh_outside.specs.Disk.{IsOutside}
use Rattle.swh_memory_disk.proofs.ranges.is_outside.Given as goal

abbrev pub invariant-loop-range : goal.invariant-loop-range
invariant-loop-range l = IsOutside (reverse (take l.range-index l.ranges)) l.k
