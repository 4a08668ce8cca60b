use Rattle.std.proofs.Common.{ℕ, List, map, sym, ap, ◌∙◌, subst}
use Rattle.swh_dedup.specs.Making.{object_of}
use Rattle.swh_dedup.specs.Seen.{kept_made, slot_at, IsNowhere}
use Rattle.swh_dedup.proofs.Seens.{not_true, nowhere_then}
use Rattle.swh_dedup.proofs.Sharings.{none_then}
use Rattle.swh_dedup.proofs.seen.place_of.Goals as goal

pub returns-clause-none : goal.returns-clause-none
returns-clause-none c =
    let digest = c.digest_of-digest.result in
    let m = object_of c.args.name.now.kind c.args.body.now in
    none_then c.mapped_place.result _ _ c.mapped_place.ensures.none
    (λ others. subst (λ (d : ℕ). IsNowhere (map kept_made c.args.made.now) d m c.args.places.now) c.digest_of-digest.ensures
    (nowhere_then (map kept_made c.args.made.now) digest c.in-Some.place m c.args.places.now (ap (λ (s : List ℕ). slot_at s digest) (sym c.as_slice.ensures.value) ∙ sym c.slot_of.ensures ∙ c.in-Some.is) (λ e. not_true _ (c.stands_at.ensures.1 e) c.if-stands_at.false) others))
