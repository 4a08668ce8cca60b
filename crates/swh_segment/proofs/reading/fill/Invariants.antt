use Rattle.std.proofs.Common.{◌≡◌, ◌-◌, ◌≤◌, length, take, drop}
use Rattle.swh_segment.proofs.reading.fill.Given as goal

abbrev pub invariant-loop-done : goal.invariant-loop-done
invariant-loop-done g l = record {
  in_range : l.done ≤ length l.out;
  same : g.D.Disk.tells → g.D.Disk.file l.disk ≡ g.D.Disk.file l.fn.disk;
  filled : g.D.Disk.tells → take l.done l.out ≡ take l.done (drop l.at (g.D.Disk.file l.fn.disk).seen);
  inside : g.D.Disk.tells → l.done ≤ length (drop l.at (g.D.Disk.file l.fn.disk).seen);
  quiet : g.D.Disk.faults l.disk ≡ g.D.Disk.faults l.fn.disk;
}

abbrev pub decreases-loop-done : goal.decreases-loop-done
decreases-loop-done g l = length l.initial.out - l.done
