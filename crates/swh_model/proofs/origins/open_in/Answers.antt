use Rattle.std.proofs.Common.{◌≡◌, ◌+◌, ◌∷◌, ◌++◌, [], None, List, ℕ, length, map, sym, ap, subst, ◌∙◌}
use Rattle.std.specs.FinMap.{find, insert}
use Rattle.std.specs.Ordering.{nat_cmp}
use Rattle.std.specs.Cmp.Lexicographic.{slice_cmp}
use Rattle.swh_model.specs.declared.event.Visit.{Visit}
use Rattle.swh_model.specs.declared.origins.VisitedOrigin.{VisitedOrigin}
use Rattle.swh_model.specs.Step.{first_of}
use Rattle.swh_model.specs.State.{with_visits, origins_in, IsPlaceOf}
use Rattle.swh_model.proofs.PlainLists.{place-named, visits-at, visits-none, origins-set, origins-push}
use Rattle.swh_model.proofs.Results.{on_ok}
use Rattle.swh_model.proofs.origins.open_in.Goals as goal

pub returns-in-Some : goal.returns-in-Some
returns-in-Some c =
    let os = c.args.origins.now.items in
    let url = c.args.origin.now in
    let place = c.in-Some.place in
    let o = c.index_mut.result.now in
    let w : VisitedOrigin = record { origin = o.origin; visits = c.push_opened.new.visits } in
    let at : IsPlaceOf url os place = subst (λ (ps : List VisitedOrigin). IsPlaceOf url ps place) c.deref.ensures.value c.in-Some.ensures.some in
    on_ok c.push_opened.result c.push_opened.ensures.ok
    (λ is. origins-set url w os place at (place-named url os place o at c.index_mut.ensures.value)
    ∙ ap (λ (vs : List Visit). insert (origins_in os) url vs)
    (is ∙ ap (λ (vs : List Visit). vs ++ first_of (length vs + 1) c.args.date c.args.kind c.args.by ∷ []) (sym (visits-at url os place o at c.index_mut.ensures.value))))

pub returns-in_ok-push-in-None : goal.returns-in_ok-push-in-None
returns-in_ok-push-in-None c =
    let os = c.args.origins.now.items in
    let url = c.args.origin.now in
    let w : VisitedOrigin = record { origin = c.in_ok-origin-in-None.origin; visits = c.push_opened-in-None.new.visits } in
    let none : find (slice_cmp nat_cmp) url (map with_visits os) ≡ None =
    subst (λ (ps : List VisitedOrigin). find (slice_cmp nat_cmp) url (map with_visits ps) ≡ None) c.deref.ensures.value c.in-None.ensures.none in
    ap (λ (ps : List VisitedOrigin). origins_in ps) c.in_ok-push-in-None.ensures.items
    ∙ origins-push os w (subst (λ (u : List ℕ). find (slice_cmp nat_cmp) u (map with_visits os) ≡ None) (sym c.in_ok-origin-in-None.ensures) none)
    ∙ ap (λ (u : List ℕ). insert (origins_in os) u w.visits.items) c.in_ok-origin-in-None.ensures
    ∙ ap (λ (vs : List Visit). insert (origins_in os) url vs)
    (c.in_ok-push_opened-in-None.ensures.ok
    ∙ ap (λ (vs : List Visit). vs ++ first_of (length vs + 1) c.args.date c.args.kind c.args.by ∷ []) (c.new-visits.ensures.items ∙ sym (visits-none url os none)))
