use Rattle.swh_store.specs.Places.{NoneLeads}
use Rattle.swh_store.proofs.places.tell_all.Given as goal

abbrev pub invariant-loop-step : goal.invariant-loop-step
invariant-loop-step l = NoneLeads l.slots l.entries l.name l.step
