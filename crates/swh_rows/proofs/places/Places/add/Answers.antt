use Rattle.std.proofs.Common.{[], ◌∷◌, ◌++◌, subst}
use Rattle.swh_rows.specs.Places.{IsPlaced, IsPut, StaysPut}
use Rattle.swh_rows.proofs.StandLemmas.{on_ok, on_err}
use Rattle.swh_rows.proofs.PlaceLemmas.{placed-push, placed-stay}
use Rattle.swh_rows.proofs.places.Places.add.Goals as goal

pub returns-clause-ok : goal.returns-clause-ok
returns-clause-ok g c =
    let names = g.R.Rows.names c.args.rows.now in
    let n = c.args.name.now in
    let old = c.make_room.new.self in
    let new = c.put.new.self in
    on_ok c.put.result (IsPut old new n c.len.result) (IsPlaced new (names ++ n ∷ [])) c.put.ensures.ok
    (λ put. placed-push old new names n c.make_room.ensures (subst (IsPut old new n) c.len.ensures put) c.requires.absent)

pub returns-clause-err : goal.returns-clause-err
returns-clause-err g c =
    let names = g.R.Rows.names c.args.rows.now in
    on_err c.put.result (StaysPut c.make_room.new.self c.put.new.self) (IsPlaced c.put.new.self names) c.put.ensures.err
    (λ stay. placed-stay c.make_room.new.self c.put.new.self names stay c.make_room.ensures)
