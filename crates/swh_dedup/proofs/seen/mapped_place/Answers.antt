use Rattle.std.proofs.Common.{◌≡◌, ℕ, List, Contains, map, slice_get, Some, sym, subst}
use Rattle.swh_dedup.specs.Making.{object_of}
use Rattle.swh_dedup.specs.Seen.{kept_made}
use Rattle.swh_dedup.proofs.Seens.{not_true}
use Rattle.swh_dedup.proofs.Sharings.{none_then, nowhere}
use Rattle.swh_dedup.proofs.seen.mapped_place.Goals as goal

pub returns-clause-none : goal.returns-clause-none
returns-clause-none c =
    none_then c.place_among.result _ _ c.place_among.ensures.none
    (λ others k there e. nowhere c.args.digest c.in-Some.first.now c.args.places.now
    (λ (j : ℕ). slice_get (map kept_made c.args.made.now) j ≡ Some (object_of c.args.kind c.args.body.now))
    (sym c.in-Some.ensures.value)
    (λ f. not_true _ (c.stands_at.ensures.1 f) c.if-stands_at.false)
    (λ j h f. others j (subst (λ (t : List ℕ). Contains t j) (sym c.others_of.ensures) h) f)
    k there e)
