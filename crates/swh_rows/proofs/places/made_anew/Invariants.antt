use Rattle.std.proofs.Common.{take}
use Rattle.swh_rows.specs.Places.{IsPlaced}
use Rattle.swh_rows.proofs.places.made_anew.Given as goal

abbrev pub invariant-loop-place : goal.invariant-loop-place
invariant-loop-place g l = IsPlaced l.places (take l.place (g.R.Rows.names l.rows))
