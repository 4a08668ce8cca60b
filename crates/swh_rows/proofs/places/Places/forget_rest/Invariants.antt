use Rattle.std.proofs.Common.{◌≤◌, take, length}
use Rattle.swh_rows.specs.Places.{IsPlaced}
use Rattle.swh_rows.proofs.places.Places.forget_rest.Given as goal

abbrev pub invariant-loop-place : goal.invariant-loop-place
invariant-loop-place g l = record {
  ordered : l.count ≤ l.place;
  within : l.place ≤ length (g.R.Rows.names l.rows);
  placed : IsPlaced l.self (take l.place (g.R.Rows.names l.rows));
}

abbrev pub decreases-loop-place : goal.decreases-loop-place
decreases-loop-place g l = l.place
