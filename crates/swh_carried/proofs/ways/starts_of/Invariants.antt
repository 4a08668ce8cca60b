use Rattle.std.proofs.Common.{take}
use Rattle.swh_carried.specs.Ways.{IsStart, TellAll}
use Rattle.swh_carried.proofs.ways.starts_of.Given as goal

abbrev pub invariant-loop-start : goal.invariant-loop-start
invariant-loop-start l = TellAll (IsStart (take l.start-index l.starts)) l.ways.entries
