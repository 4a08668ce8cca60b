use Rattle.std.proofs.Common.{take}
use Rattle.swh_fastcook.specs.Lengths.{HasLengthOf}
use Rattle.swh_fastcook.specs.Stream.{AreObjectTexts}
use Rattle.swh_fastcook.proofs.length.each_length.Given as goal

abbrev pub invariant-loop-name : goal.invariant-loop-name
invariant-loop-name g l = HasLengthOf (AreObjectTexts (g.L.Look.archive l.look).bodies l.marks (take l.name-index l.names)) l.count
