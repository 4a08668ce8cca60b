use Rattle.std.proofs.Common.{◌≤◌, length, subst, arith}
use Rattle.std.proofs.lemmas.List.{take_all}
use Rattle.swh_rows.specs.Places.{IsPlaced}
use Rattle.swh_rows.proofs.StandLemmas.{absent-before}
use Rattle.swh_rows.proofs.PlaceLemmas.{placed-next}
use Rattle.swh_rows.proofs.places.made_anew.Goals as goal

pub loop-place-preserved : goal.loop-place-preserved
loop-place-preserved g c =
    let names = g.R.Rows.names c.args.rows.now in
    let there = c.name_among-name.ensures in
    placed-next c.loop-place.places c.put.new.self names c.name_among-name.result c.loop-place.place there
    (absent-before names c.name_among-name.result c.loop-place.place c.requires there) c.loop-place.invariant c.in_ok-put.ensures.ok

pub returns : goal.returns
returns g c =
    let names = g.R.Rows.names c.args.rows.now in
    let past : length names ≤ c.loop-place.place = let count = c.len-count.ensures in let end = c.loop-place-test.false in omega (arith, count, end) in
    subst (IsPlaced c.loop-place.places) (take_all c.loop-place.place names past) c.loop-place.invariant
