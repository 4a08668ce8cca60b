use Rattle.std.proofs.Common.{sym, ap, ◌∙◌}
use Rattle.swh_model.specs.declared.origins.VisitedOrigin.{VisitedOrigin}
use Rattle.swh_model.proofs.PlainLists.{visits-at, visits-none}
use Rattle.swh_model.proofs.origins.visits_in.Goals as goal

pub returns-in-Some : goal.returns-in-Some
returns-in-Some c =
    c.as_slice.ensures.value ∙ ap (λ (o : VisitedOrigin). o.visits.items) (sym c.index-origins-place.is)
    ∙ sym (visits-at c.args.origin.now c.args.origins.now c.in-Some.place c.index-origins-place.result c.in-Some.ensures.some c.index-origins-place.is)

pub returns-in-None : goal.returns-in-None
returns-in-None c = sym (visits-none c.args.origin.now c.args.origins.now c.in-None.ensures.none)
