use Rattle.swh_store.specs.Places.{IsIndexed}
use Rattle.swh_store.proofs.AddingLemmas.{Added}
use Rattle.swh_store.proofs.adding.add_each.Given as goal

abbrev pub invariant-loop-entry : goal.invariant-loop-entry
invariant-loop-entry l = record {
  indexed : IsIndexed l.held;
  added : Added l.initial.held.entries.items l.held.entries.items l.entries l.entry-index;
}
