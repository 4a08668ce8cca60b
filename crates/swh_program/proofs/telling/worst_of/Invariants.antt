use Rattle.std.proofs.Common.{◌≡◌, drop}
use Rattle.swh_program.specs.Lines.{ending_of_all, worse}
use Rattle.swh_program.proofs.telling.worst_of.Given as goal

abbrev pub invariant-loop-outcome : goal.invariant-loop-outcome
invariant-loop-outcome l = worse l.worst (ending_of_all (drop l.outcome-index l.outcomes)) ≡ ending_of_all l.outcomes
