use Rattle.std.proofs.Common.{sym, ap, ◌∙◌, subst}
use Rattle.swh_store.specs.Entries.{stored_in}
use Rattle.swh_store.specs.Front.{Front}
use Rattle.swh_store.specs.Places.{IsPlaced}
use Rattle.swh_store.proofs.Fronts.{shown-all, all_in_front}
use Rattle.swh_store.proofs.preloaded.Preloaded.into_store.Goals as goal

pub invariant_of-result : goal.invariant_of-result
invariant_of-result c =
    let inside = c.self.inside in
    subst (IsPlaced inside.held.places) (all_in_front inside.held inside.fresh inside.shown c.self.invariant (ap (λ (f : Front). f.rest) c.self.view_is ∙ c.requires)) c.self.invariant.placed

pub returns : goal.returns
returns c =
    let inside = c.self.inside in
    let all = shown-all inside.held inside.fresh inside.shown c.self.invariant (ap (λ (f : Front). f.rest) c.self.view_is ∙ c.requires) in
    ap stored_in (sym all) ∙ ap (λ (f : Front). f.shown) c.self.view_is
