use Rattle.std.proofs.Common.{◌-◌}
use Rattle.swh_graph.proofs.Halves.{IsBetween}
use Rattle.swh_graph.proofs.head.place_of.Given as goal

abbrev pub invariant-halves : goal.invariant-halves
invariant-halves l = IsBetween l.branches l.name l.low l.high

abbrev pub decreases-halves : goal.decreases-halves
decreases-halves l = l.high - l.low
