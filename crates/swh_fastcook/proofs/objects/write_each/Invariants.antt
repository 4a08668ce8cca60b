use Rattle.std.proofs.Common.{◌≡◌, List, ℕ, take}
use Rattle.swh_fastwrite.specs.Held.{Goes, kept}
use Rattle.swh_fastcook.specs.Stream.{AreObjectTexts}
use Rattle.swh_fastcook.proofs.objects.write_each.Given as goal

abbrev pub invariant-loop-name : goal.invariant-loop-name
invariant-loop-name g l = record {
  quiet : g.T.Taker.failures l.taker ≡ g.T.Taker.failures l.initial.taker;
  texts : List ℕ;
  are : AreObjectTexts (g.L.Look.archive l.look).bodies l.marks (take l.name-index l.names) texts;
  goes : Goes g.T.Taker.takes g.T.Taker.takes_front (kept l.initial.taker l.initial.held.items) texts (kept l.taker l.held.items);
}
