use Rattle.std.proofs.Common.{sym, ◌∙◌, take, subst, arith}
use Rattle.std.proofs.lemmas.List.{get_or_default}
use Rattle.swh_base.specs.declared.entry.Entry.{Entry}
use Rattle.swh_store.specs.Entries.{IsFound}
use Rattle.swh_store.specs.Places.{HasBytes, IsPut}
use Rattle.swh_store.proofs.Fronts.{fresh_before}
use Rattle.swh_store.proofs.PlaceLemmas.{found_twice, placed-next}
use Rattle.swh_store.proofs.places.places_of.Goals as goal

pub returns-then-is_some-clause-fresh : goal.returns-then-is_some-clause-fresh
returns-then-is_some-clause-fresh c =
    let es = c.args.entries.now in
    let place = c.loop-place.place in
    let is = c.index-entries-place.is in
    let less = c.loop-place-test.true in
    let found = subst (λ (e : Entry). IsFound (take place es) e.name c.find.result) (sym is) c.find.ensures in
    fresh_before es place (omega (arith, less)) c.loop-place.invariant.new
    (λ newer. found_twice es place c.index-entries-place.result c.find.result less is (sym c.is_some.ensures ∙ c.if-is_some.true) found newer)

pub loop-place-preserved : goal.loop-place-preserved
loop-place-preserved c =
    let es = c.args.entries.now in
    let place = c.loop-place.place in
    let is = c.index-entries-place.is in
    let found = subst (λ (e : Entry). IsFound (take place es) e.name c.find.result) (sym is) c.find.ensures in
    let again = c.index-entries-place-in-loop-place in
    let bytes = subst HasBytes (again.is ∙ get_or_default es place again.result c.index-entries-place.result c.loop-place-test.true ∙ sym is) c.has_bytes.ensures in
    let put = subst (λ (e : Entry). IsPut c.loop-place.places c.put.new.self e.name place) (sym is) c.in_ok-put.ensures.ok in
    placed-next c.loop-place.places c.put.new.self es place c.index-entries-place.result c.find.result c.loop-place-test.true is c.requires bytes
    (sym c.is_some.ensures ∙ c.if-is_some.false) found c.loop-place.invariant put
