use Rattle.std.proofs.Common.{◌≡◌, ℕ, List, Option, Some, Contains, map, slice_get, refl, sym, ◌∙◌, subst}
use Rattle.std.specs.Prelude.{IfNone, IfSome}
use Rattle.swh_dedup.specs.Making.{object_of}
use Rattle.swh_dedup.specs.declared.places.Places.{Places}
use Rattle.swh_dedup.specs.Seen.{kept_made, LeadsTo, LedTo}
use Rattle.swh_dedup.proofs.Seens.{contains_at, not_true, led_new, led_none, led_same, led_other, led_absent}
use Rattle.swh_dedup.proofs.Sharings.{none_there}
use Rattle.swh_dedup.proofs.seen.note_mapped.Goals as goal

pub returns-in_default-clause-mapped : goal.returns-in_default-clause-mapped
returns-in_default-clause-mapped c =
    let digest = c.args.digest in
    let old = c.args.places.now in
    let new : Places = record { slots = old.slots; first = c.lead.new.first; further = old.further } in
    let l : LeadsTo digest c.args.place old.first.entries new.first.entries =
    subst (λ (o : Option ℕ). IfNone o (LeadsTo digest c.args.place old.first.entries new.first.entries)) c.in_default.is c.in_ok-first.ensures.new in
    (led_new digest c.args.place old new l refl, λ k there e. led_none digest old k l.none there)

pub returns-then-stands_at-clause-mapped : goal.returns-then-stands_at-clause-mapped
returns-then-stands_at-clause-mapped c =
    let digest = c.args.digest in
    let old = c.args.places.now in
    let new : Places = record { slots = old.slots; first = c.lead.new.first; further = old.further } in
    let l : LedTo digest old.first.entries new.first.entries c.in-Some.first =
    subst (λ (o : Option ℕ). IfSome o (LedTo digest old.first.entries new.first.entries)) c.in-Some.is c.in_ok-first.ensures.known in (
      led_same digest c.in-Some.first old new l refl,
      contains_at (map kept_made c.args.made.now) c.in-Some.first (object_of c.args.kind c.args.body.now) (c.stands_at.ensures.0 c.if-stands_at.true),
    )

pub returns-clause-mapped : goal.returns-clause-mapped
returns-clause-mapped c =
    let digest = c.args.digest in
    let old = c.args.places.now in
    let new : Places = record { slots = old.slots; first = c.lead.new.first; further = c.add_other.new.further } in
    let l : LedTo digest old.first.entries new.first.entries c.in-Some.first =
    subst (λ (o : Option ℕ). IfSome o (LedTo digest old.first.entries new.first.entries)) c.in-Some.is c.in_ok-first.ensures.known in (
      led_other digest c.in-Some.first c.args.place old new l c.in_ok-add_other.ensures.ok,
      led_absent digest c.in-Some.first old new (λ (k : ℕ). slice_get (map kept_made c.args.made.now) k ≡ Some (object_of c.args.kind c.args.body.now)) l
          (λ e. not_true _ (c.stands_at.ensures.1 e) c.if-stands_at.false)
          (λ k there e. none_there c.place_among.result _ (sym c.is_some.ensures ∙ c.if-is_some.false) c.place_among.ensures.none k (subst (λ (t : List ℕ). Contains t k) (sym c.others_of-others.ensures) there) e),
    )
