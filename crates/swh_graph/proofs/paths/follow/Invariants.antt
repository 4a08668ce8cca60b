use Rattle.std.proofs.Common.{length}
use Rattle.swh_graph.proofs.Ways.{IsOnWay}
use Rattle.swh_graph.proofs.paths.follow.Given as goal

abbrev pub invariant-components : goal.invariant-components
invariant-components g l = IsOnWay (g.L.Look.archive l.look).bodies l.fn.root l.path l.place l.number l.rest

abbrev pub decreases-components : goal.decreases-components
decreases-components g l = length l.rest
