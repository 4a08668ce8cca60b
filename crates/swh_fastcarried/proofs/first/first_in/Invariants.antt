use Rattle.std.specs.Prelude.{IsTrue}
use Rattle.std.proofs.Common.{◌≤◌, drop, length}
use Rattle.swh_carried.specs.Ways.{ComesFrom, TellAll}
use Rattle.swh_fastcarried.specs.First.{IsFirstFound}
use Rattle.swh_fastcarried.specs.Rules.{BreaksIn}
use Rattle.swh_fastcarried.proofs.first.first_in.Given as goal

abbrev pub invariant-names : goal.invariant-names
invariant-names g l = record {
  few : l.left ≤ length l.reached.order.now;
  tell : TellAll (ComesFrom (g.L.Look.archive l.look).bodies l.roots.items (drop l.left l.reached.order.now)) l.ways.entries;
  first : IsFirstFound (BreaksIn (g.L.Look.archive l.look).bodies l.reached.root l.reached.order.now (IsTrue l.many) ⊥) (drop l.left l.reached.order.now) l.found;
}

abbrev pub decreases-names : goal.decreases-names
decreases-names g l = l.left
