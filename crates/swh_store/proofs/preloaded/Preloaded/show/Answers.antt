use Rattle.std.proofs.Common.{◌≡◌, ◌≤◌, true, false, length, take, refl, subst, sym, ap, ◌∙◌, arith}
use Rattle.std.specs.Prelude.{◌↔◌, IsTrue}
use Rattle.swh_model.specs.Step.{AreNew, added}
use Rattle.swh_store.specs.Front.{Front}
use Rattle.swh_store.proofs.Fronts.{shows, shows_no_more, shown-more}
use Rattle.swh_store.proofs.preloaded.Preloaded.show.Goals as goal

pub returns-then-count-self-clause-new : goal.returns-then-count-self-clause-new
returns-then-count-self-clause-new c =
    let inside = c.self.inside in
    let count = c.args.count in
    let past = c.if-count-self.true in
    let within = c.self.invariant.within in
    subst (λ (f : Front). IsTrue false ↔ AreNew f.shown.bodies (take count f.rest)) c.self.view_is (
      λ t. absurd (let no : false ≡ true = t in cc),
      λ new. absurd (shows_no_more inside.held inside.fresh inside.shown c.self.invariant count (omega (arith, past, within)) (subst (λ (f : Front). count ≤ length f.rest) (sym c.self.view_is) c.requires) new),
    )

pub returns-clause-new : goal.returns-clause-new
returns-clause-new c =
    let inside = c.self.inside in
    let count = c.args.count in
    let few = c.if-count-self.false in
    let within = c.self.invariant.within in
    subst (λ (f : Front). IsTrue true ↔ AreNew f.shown.bodies (take count f.rest)) c.self.view_is
    (λ _. shows inside.held inside.fresh inside.shown c.self.invariant count (omega (arith, few, within)), λ _. refl)

pub returns-clause-shown : goal.returns-clause-shown
returns-clause-shown c = λ _.
    let inside = c.self.inside in
    shown-more inside.held inside.fresh inside.shown c.self.invariant c.args.count ∙ ap (λ (f : Front). added f.shown.bodies (take c.args.count f.rest)) c.self.view_is
