use Rattle.std.proofs.Common.{take}
use Rattle.swh_outside.specs.Disk.{IsOutside}
use Rattle.swh_core.proofs.disk.is_outside.Given as goal

abbrev pub invariant-loop-range : goal.invariant-loop-range
invariant-loop-range l = IsOutside (take l.range-index l.ranges) l.k
