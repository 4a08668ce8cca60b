use Rattle.std.proofs.Common.{◌≡◌, ℕ, take, sym, subst, ◌∙◌, arith}
use Rattle.std.specs.Prelude.{Contains}
use Rattle.swh_rows.specs.Places.{IsPlaced}
use Rattle.swh_rows.proofs.StandLemmas.{fresh-before, fresh-all, when_none}
use Rattle.swh_rows.proofs.PlaceLemmas.{placed-next}
use Rattle.swh_rows.proofs.places.places_of.Goals as goal

pub returns-then-is_some-clause-fresh : goal.returns-then-is_some-clause-fresh
returns-then-is_some-clause-fresh g c =
    fresh-before (g.R.Rows.names c.args.rows.now) c.name_among-name.result c.loop-place.place c.find.result c.name_among-name.ensures c.loop-place.invariant.distinct
    (sym c.is_some.ensures ∙ c.if-is_some.true) c.find.ensures.some

pub loop-place-preserved : goal.loop-place-preserved
loop-place-preserved g c =
    let names = g.R.Rows.names c.args.rows.now in
    let name = c.name_among-name.result in
    let place = c.loop-place.place in
    placed-next c.loop-place.places c.put.new.self names name place c.name_among-name.ensures
    (when_none c.find.result (Contains (take place names) name → ⊥) (sym c.is_some.ensures ∙ c.if-is_some.false) c.find.ensures.none) c.loop-place.invariant c.in_ok-put.ensures.ok

pub returns-clause-placed : goal.returns-clause-placed
returns-clause-placed g c =
    let names = g.R.Rows.names c.args.rows.now in
    let end : c.loop-place.place ≡ c.len-count.result = let past = c.loop-place-test.false in let within = c.loop-place.auto.place-end in omega (arith, past, within) in
    subst (λ (k : ℕ). IsPlaced c.loop-place.places (take k names)) end c.loop-place.invariant

pub returns-clause-fresh : goal.returns-clause-fresh
returns-clause-fresh g c =
    let names = g.R.Rows.names c.args.rows.now in
    let end : c.loop-place.place ≡ c.len-count.result = let past = c.loop-place-test.false in let within = c.loop-place.auto.place-end in omega (arith, past, within) in
    fresh-all names c.len-count.result c.len-count.ensures (subst (λ (k : ℕ). IsPlaced c.loop-place.places (take k names)) end c.loop-place.invariant).distinct
