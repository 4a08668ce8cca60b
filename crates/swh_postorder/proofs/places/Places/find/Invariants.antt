use Rattle.swh_postorder.specs.Places.{TellOthers}
use Rattle.swh_postorder.proofs.places.Places.find.Given as goal

abbrev pub invariant-loop-step : goal.invariant-loop-step
invariant-loop-step l = TellOthers l.self l.names l.name l.step
