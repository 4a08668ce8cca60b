use Rattle.std.proofs.Common.{◌≤◌, drop, length}
use Rattle.swh_carried.specs.Ways.{ComesFrom, TellAll}
use Rattle.swh_carried.proofs.ways.ways_from.Given as goal

abbrev pub invariant-names : goal.invariant-names
invariant-names g l = record {
  few : l.left ≤ length l.order;
  tell : TellAll (ComesFrom (g.L.Look.archive l.look).bodies l.starts (drop l.left l.order)) l.ways.entries;
}

abbrev pub decreases-names : goal.decreases-names
decreases-names g l = l.left
