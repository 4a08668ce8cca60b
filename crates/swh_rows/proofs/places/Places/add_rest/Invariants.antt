use Rattle.std.proofs.Common.{take}
use Rattle.swh_rows.specs.Places.{IsPlaced}
use Rattle.swh_rows.proofs.places.Places.add_rest.Given as goal

abbrev pub invariant-loop-place : goal.invariant-loop-place
invariant-loop-place g l = IsPlaced l.self (take l.place (g.R.Rows.names l.rows))
