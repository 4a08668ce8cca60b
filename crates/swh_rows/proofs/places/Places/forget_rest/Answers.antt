use Rattle.std.proofs.Common.{◌-◌, take, subst, arith}
use Rattle.swh_rows.specs.Places.{IsPlaced}
use Rattle.swh_rows.proofs.StandLemmas.{take-last}
use Rattle.swh_rows.proofs.places.Places.forget_rest.Goals as goal

pub loop-place-preserved : goal.loop-place-preserved
loop-place-preserved g c =
    let names = g.R.Rows.names c.args.rows.now in
    let place = c.loop-place.place in
    let more = c.loop-place-test.true in
    let within = c.loop-place.invariant.within in
    record {
      ordered = omega (arith, more);
      within = omega (arith, within);
      placed = c.forget.ensures (take (place - 1) names)
          (subst (IsPlaced c.loop-place.self) (take-last names c.name_among-name.result place (omega (arith, more)) c.name_among-name.ensures) c.loop-place.invariant.placed);
    }
