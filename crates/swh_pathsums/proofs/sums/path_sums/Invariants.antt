use Rattle.std.proofs.Common.{take}
use Rattle.swh_pathsums.specs.Tallies.{HaveTallies}
use Rattle.swh_pathsums.proofs.sums.path_sums.Given as goal

abbrev pub invariant-loop-name : goal.invariant-loop-name
invariant-loop-name g l = HaveTallies (g.L.Look.archive l.look).bodies (g.W.Weigh.weight_of l.weigher) l.sums (take l.name-index l.order)
