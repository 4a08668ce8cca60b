use Rattle.std.proofs.Common.{take}
use Rattle.std.specs.List.{AllByRecursion}
use Rattle.swh_model.specs.Archive.{IsHeld}
use Rattle.swh_graph.proofs.reaching.first_missing.Given as goal

abbrev pub invariant-loop-name : goal.invariant-loop-name
invariant-loop-name g l = AllByRecursion (IsHeld (g.L.Look.archive l.look).bodies) (take l.name-index l.names)
