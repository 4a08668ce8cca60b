use Rattle.std.proofs.Common.{ℕ, ◌+◌, ◌≤◌, Some, List, take, drop, sym, ap, ◌∙◌, subst, arith}
use Rattle.swh_model.specs.declared.event.Event.{Event}
use Rattle.swh_model.specs.Archive.{empty_archive}
use Rattle.swh_model.specs.Limits.{store_length}
use Rattle.swh_model.specs.Step.{IsHistory}
use Rattle.swh_model.proofs.Entries.{none-empty}
use Rattle.swh_format.specs.Stands.{coded_runs}
use Rattle.swh_keeper.specs.Places.{IsPlaceOf, AreUnnamed}
use Rattle.swh_keeper.proofs.HeldBodies.{found-at, none-at}
use Rattle.swh_keeper.proofs.StoredLemmas.{runs_within, runs_part}
use Rattle.swh_keeper.proofs.keeper.Keeper.stored.Goals as goal

pub returns-in_default-clause-none : goal.returns-in_default-clause-none
returns-in_default-clause-none g c =
    let name = c.args.name.now in
    let none = c.in_default.ensures.none in
    none-at empty_archive c.args.self.now.history name
    (subst (λ (l : List Event). AreUnnamed name l) (c.as_slice.ensures.value ∙ ap (λ k. k.history) c.self.view_is) none) (none-empty name)

pub read_bytes-requires-after_bounds : goal.read_bytes-requires-after_bounds
read_bytes-requires-after_bounds g c κs within =
    let name = c.args.name.now in
    let place = c.in-Some.place in
    let same = ap (λ k. k.history) c.self.view_is in
    let there = c.in-Some.ensures.some in
    let found = found-at g.N.Namer.id_of empty_archive c.args.self.now.history name place (subst (λ (l : List Event). IsHistory g.N.Namer.id_of l) same c.self.invariant.keeping.history)
    (subst (λ (l : List Event). IsPlaceOf l name place) (c.as_slice.ensures.value ∙ same) there) in
    let inside = found.within in
    let end = (c.self.invariant.keeping.replayed_is (ap (λ k. k.wounded) c.self.view_is ∙ c.requires)).store ∙ ap store_length same in
    let fits = c.self.invariant.keeping.in_files.store_fits in
    omega (arith, inside, end, fits)

pub returns-clause-long : goal.returns-clause-long
returns-clause-long g c =
    let name = c.args.name.now in
    let place = c.in-Some.place in
    let same = ap (λ k. k.history) c.self.view_is in
    let there = c.in-Some.ensures.some in
    let found = found-at g.N.Namer.id_of empty_archive c.args.self.now.history name place (subst (λ (l : List Event). IsHistory g.N.Namer.id_of l) same c.self.invariant.keeping.history)
    (subst (λ (l : List Event). IsPlaceOf l name place) (c.as_slice.ensures.value ∙ same) there) in
    record { body = found.body; held = found.held; long = let few = c.in_ok-bytes.ensures.size in let all = found.long in omega (arith, few, all) }

pub returns-clause-held : goal.returns-clause-held
returns-clause-held g c told =
    let name = c.args.name.now in
    let place = c.in-Some.place in
    let inside = c.self.inside in
    let same = ap (λ k. k.history) c.self.view_is in
    let there = c.in-Some.ensures.some in
    let found = found-at g.N.Namer.id_of empty_archive c.args.self.now.history name place (subst (λ (l : List Event). IsHistory g.N.Namer.id_of l) same c.self.invariant.keeping.history)
    (subst (λ (l : List Event). IsPlaceOf l name place) (c.as_slice.ensures.value ∙ same) there) in
    let settled = c.self.invariant.keeping.settled (ap (λ k. k.wounded) c.self.view_is ∙ c.requires) told in
    let within = subst (λ (h : List Event). place.at + place.size ≤ store_length h) (sym same) found.within in
    let bytes = c.in_ok-bytes.ensures.bytes told (runs_within (g.D.Disk.file inside.ledger.disk) (g.D.Disk.file inside.store.disk) inside.history.items _ _ place.at place.size settled within)
    ∙ runs_part (g.D.Disk.file inside.ledger.disk) (g.D.Disk.file inside.store.disk) inside.history.items _ _ place.at place.size settled within
    ∙ ap (λ (h : List Event). take place.size (drop place.at (coded_runs h))) same ∙ found.bytes in
    found.held ∙ ap (λ (l : List ℕ). Some l) (sym bytes)
