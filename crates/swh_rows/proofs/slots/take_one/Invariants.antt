use Rattle.swh_rows.specs.Slots.{MarksStay, AreTaken}
use Rattle.swh_rows.proofs.slots.take_one.Given as goal

abbrev pub invariant-loop-step : goal.invariant-loop-step
invariant-loop-step l = record {
  stay : MarksStay l.fn.slots.items l.slots.items;
  taken : AreTaken l.slots.items l.name l.step;
}
