use Rattle.swh_plan.proofs.BatchLemmas.{Splits}
use Rattle.swh_plan.proofs.fresh.split_fresh.Given as goal

abbrev pub invariant-loop-entry : goal.invariant-loop-entry
invariant-loop-entry l = Splits l.store.bodies l.entries l.entry-index l.fresh l.collision
