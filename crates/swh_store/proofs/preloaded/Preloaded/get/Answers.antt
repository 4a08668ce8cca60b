use Rattle.std.proofs.Common.{◌≡◌, List, Option, Some, None, take, sym, ◌∙◌, subst, arith}
use Rattle.std.specs.Prelude.{IfNone}
use Rattle.std.proofs.lemmas.List.{get_or-take}
use Rattle.swh_base.specs.declared.entry.Entry.{Entry}
use Rattle.swh_model.specs.Archive.{body_of}
use Rattle.swh_store.specs.Entries.{IsFound, StandsAt}
use Rattle.swh_store.specs.Stored.{IsEntryOf, children_in}
use Rattle.swh_store.specs.Front.{Front}
use Rattle.swh_store.proofs.IndexLemmas.{as_named, read_there, stands}
use Rattle.swh_store.proofs.Fronts.{front-shown, missing-in_front, missing-behind, shown-good, shown-new}
use Rattle.swh_store.proofs.preloaded.Preloaded.get.Goals as goal

whether : {X : Type 0} (o : Option X) {P : Type 0} → P → IfNone o P
whether None p = p
whether (Some x) p = tt

pub returns-in_err-place-clause-none : goal.returns-in_err-place-clause-none
returns-in_err-place-clause-none c =
    let inside = c.self.inside in
    let n = c.args.name.now in
    let none = subst (λ (es : List Entry). IsFound (take inside.fresh es) n None) c.deref.ensures.value (subst (IsFound (take inside.fresh c.deref.result.now) n) c.in_err-place.was c.find.ensures) in
    whether c.from_residual.result
    (subst (λ (f : Front). body_of f.shown.bodies n ≡ None) c.self.view_is (missing-in_front inside.held inside.fresh inside.shown c.self.invariant n none).0)

pub returns-in_err-place-clause-childless : goal.returns-in_err-place-clause-childless
returns-in_err-place-clause-childless c =
    let inside = c.self.inside in
    let n = c.args.name.now in
    let none = subst (λ (es : List Entry). IsFound (take inside.fresh es) n None) c.deref.ensures.value (subst (IsFound (take inside.fresh c.deref.result.now) n) c.in_err-place.was c.find.ensures) in
    whether c.from_residual.result
    (subst (λ (f : Front). children_in f.shown n ≡ None) c.self.view_is (missing-in_front inside.held inside.fresh inside.shown c.self.invariant n none).1)

pub returns-then-place-self-clause-some : goal.returns-then-place-self-clause-some
returns-then-place-self-clause-some c =
    let inside = c.self.inside in
    let es = inside.held.entries.items in
    let n = c.args.name.now in
    let place = c.in_ok-place.place in
    let there = as_named (take inside.fresh es) n place (subst (λ (l : List Entry). StandsAt (take inside.fresh l) n place) c.deref.ensures.value c.in_ok-place.ensures) in
    let shown = front-shown inside.held inside.fresh inside.shown c.self.invariant n place c.if-place-self.true there in
    let good = shown-good inside.held inside.fresh inside.shown c.self.invariant in
    let new = shown-new inside.held inside.fresh inside.shown c.self.invariant in
    subst (λ (f : Front). IsEntryOf f.shown n c.index.result.now) c.self.view_is
    (read_there (take inside.shown es) n place c.index.result.now (stands (take inside.shown es) n place good new shown) (c.index.ensures ∙ sym (get_or-take inside.shown es place c.index.result.now c.if-place-self.true)))

pub returns-else-place-self-clause-none : goal.returns-else-place-self-clause-none
returns-else-place-self-clause-none c =
    let inside = c.self.inside in
    let n = c.args.name.now in
    let place = c.in_ok-place.place in
    let there = as_named (take inside.fresh inside.held.entries.items) n place (subst (λ (l : List Entry). StandsAt (take inside.fresh l) n place) c.deref.ensures.value c.in_ok-place.ensures) in
    let past = c.if-place-self.false in
    subst (λ (f : Front). body_of f.shown.bodies n ≡ None) c.self.view_is (missing-behind inside.held inside.fresh inside.shown c.self.invariant n place (omega (arith, past)) there).0

pub returns-else-place-self-clause-childless : goal.returns-else-place-self-clause-childless
returns-else-place-self-clause-childless c =
    let inside = c.self.inside in
    let n = c.args.name.now in
    let place = c.in_ok-place.place in
    let there = as_named (take inside.fresh inside.held.entries.items) n place (subst (λ (l : List Entry). StandsAt (take inside.fresh l) n place) c.deref.ensures.value c.in_ok-place.ensures) in
    let past = c.if-place-self.false in
    subst (λ (f : Front). children_in f.shown n ≡ None) c.self.view_is (missing-behind inside.held inside.fresh inside.shown c.self.invariant n place (omega (arith, past)) there).1
