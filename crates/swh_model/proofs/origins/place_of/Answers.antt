use Rattle.std.proofs.Common.{◌≢◌, subst, refl}
use Rattle.std.specs.List.{AllByRecursion}
use Rattle.std.proofs.lemmas.List.{take_all}
use Rattle.swh_model.specs.declared.origins.VisitedOrigin.{VisitedOrigin}
use Rattle.swh_model.proofs.PlainLists.{place-here, place-none}
use Rattle.swh_model.proofs.origins.place_of.Goals as goal

pub returns-then-is_same_origin-clause-some : goal.returns-then-is_same_origin-clause-some
returns-then-is_same_origin-clause-some c =
    place-here c.args.origin.now c.args.origins.now c.loop-place.place c.index-origins-place.result c.loop-place-test.true c.index-origins-place.is c.loop-place.invariant (c.if-is_same_origin.ensures.0 refl)

pub returns-clause-none : goal.returns-clause-none
returns-clause-none c =
    place-none c.args.origin.now c.args.origins.now
    (subst (AllByRecursion (λ (o : VisitedOrigin). o.origin ≢ c.args.origin.now)) (take_all c.loop-place.place c.args.origins.now c.loop-place-test.false) c.loop-place.invariant)
