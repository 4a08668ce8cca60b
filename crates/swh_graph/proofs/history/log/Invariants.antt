use Rattle.swh_graph.proofs.UpTo.{IsLoggedUpTo}
use Rattle.swh_graph.proofs.history.log.Given as goal

abbrev pub invariant-loop-place : goal.invariant-loop-place
invariant-loop-place g l = IsLoggedUpTo (g.L.Look.archive l.look).bodies l.fn.rev l.most l.place l.met
