use Rattle.std.proofs.Common.{length, sym, subst}
use Rattle.swh_base.specs.declared.name.Name.{Name}
use Rattle.swh_model.proofs.Results.{on_ok, on_err}
use Rattle.swh_store.specs.Places.{IsPut}
use Rattle.swh_store.proofs.PlaceLemmas.{placed-push, placed-stay}
use Rattle.swh_store.proofs.places.Places.add.Goals as goal

pub returns-clause-ok : goal.returns-clause-ok
returns-clause-ok c =
    on_ok c.put.result c.put.ensures.ok
    (λ put e same good bytes none.
    placed-push c.make_room.new.self c.put.new.self c.args.entries.now e c.make_room.ensures (subst (λ (n : Name). IsPut c.make_room.new.self c.put.new.self n (length c.args.entries.now)) (sym same) put) good bytes none)

pub returns-clause-err : goal.returns-clause-err
returns-clause-err c = on_err c.put.result c.put.ensures.err (λ stay. placed-stay c.make_room.new.self c.put.new.self c.args.entries.now stay c.make_room.ensures)
