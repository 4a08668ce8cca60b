use Rattle.std.proofs.Common.{◌≤◌, length, subst, sym, arith}
use Rattle.std.proofs.lemmas.List.{take_all}
use Rattle.swh_rows.specs.Places.{IsPlaced}
use Rattle.swh_rows.proofs.StandLemmas.{absent-before, take-next}
use Rattle.swh_rows.proofs.places.Places.add_rest.Goals as goal

pub add-requires-clause-absent : goal.add-requires-clause-absent
add-requires-clause-absent g c =
    absent-before (g.R.Rows.names c.args.rows.now) c.name_among-name.result c.loop-place.place c.requires.distinct c.name_among-name.ensures

pub loop-place-preserved : goal.loop-place-preserved
loop-place-preserved g c =
    let names = g.R.Rows.names c.args.rows.now in
    subst (IsPlaced c.add.new.self) (sym (take-next names c.name_among-name.result c.loop-place.place c.name_among-name.ensures)) c.in_default.ensures.ok

pub returns-clause-ok : goal.returns-clause-ok
returns-clause-ok g c =
    let names = g.R.Rows.names c.args.rows.now in
    let past : length names ≤ c.loop-place.place = let count = c.len-end.ensures in let end = c.loop-place-test.false in omega (arith, count, end) in
    subst (IsPlaced c.loop-place.self) (take_all c.loop-place.place names past) c.loop-place.invariant
