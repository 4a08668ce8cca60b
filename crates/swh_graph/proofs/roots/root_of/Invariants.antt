use Rattle.std.proofs.Common.{◌≡◌, length}
use Rattle.std.specs.Prelude.{Contains}
use Rattle.swh_graph.specs.Root.{HasRootOf}
use Rattle.swh_graph.proofs.Trails.{IsTrail}
use Rattle.swh_graph.proofs.roots.root_of.Given as goal

abbrev pub invariant-loop-round : goal.invariant-loop-round
invariant-loop-round g l = record {
  trail : IsTrail (HasRootOf (g.L.Look.archive l.look).bodies) (Contains l.seen) l.fn.anchor l.place;
  count : length l.seen ≡ l._round;
}
