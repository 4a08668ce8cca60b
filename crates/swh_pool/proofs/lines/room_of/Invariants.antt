use Rattle.std.proofs.Common.{◌≡◌, ◌+◌, drop}
use Rattle.swh_pool.specs.Lines.{room_of}
use Rattle.swh_pool.proofs.lines.room_of.Given as goal

abbrev pub invariant-jobs : goal.invariant-jobs
invariant-jobs g l = l.room + room_of (drop l.dated-index l.jobs) ≡ room_of l.jobs
