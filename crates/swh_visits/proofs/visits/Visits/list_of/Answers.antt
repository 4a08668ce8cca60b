use Rattle.std.proofs.Common.{◌≡◌, List, [], MatchOption, sym, ap, subst, ◌∙◌}
use Rattle.swh_model.specs.declared.event.Visit.{Visit}
use Rattle.swh_model.specs.Archive.{Origins, visits_of}
use Rattle.swh_visits.specs.Visits.{IsAll}
use Rattle.swh_visits.proofs.VisitLemmas.{visits-found, visits-missing}
use Rattle.swh_visits.proofs.visits.Visits.list_of.Goals as goal

pub returns-in-Some : goal.returns-in-Some
returns-in-Some c =
    let url = c.args.origin.now in
    subst (λ (vs : List Visit). MatchOption c.where_any.result (vs ≡ []) (IsAll vs))
    (c.as_slice.ensures.value ∙ sym (visits-found url c.self.inside.by_origin.entries c.in-Some.visits.now (sym c.in-Some.ensures.value))
    ∙ ap (λ (o : Origins). visits_of o url) c.self.view_is) c.where_any.ensures

pub returns-in-None : goal.returns-in-None
returns-in-None c =
    let url = c.args.origin.now in
    sym (ap (λ (o : Origins). visits_of o url) c.self.view_is) ∙ visits-missing url c.self.inside.by_origin.entries (sym c.in-None.ensures.value)
