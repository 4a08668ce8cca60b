use Rattle.swh_rows.specs.Slots.{NoneLeads}
use Rattle.swh_rows.proofs.slots.tell_all.Given as goal

abbrev pub invariant-loop-step : goal.invariant-loop-step
invariant-loop-step g l = NoneLeads l.slots (g.R.Rows.names l.rows) l.name l.step
