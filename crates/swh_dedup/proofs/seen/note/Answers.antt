use Rattle.std.proofs.Common.{◌≡◌, ℕ, Option, Some, Contains, map, sym, subst}
use Rattle.std.specs.Prelude.{IfNone, IfOk, IfSome}
use Rattle.swh_dedup.specs.Making.{object_of}
use Rattle.swh_dedup.specs.declared.places.Places.{Places}
use Rattle.swh_dedup.specs.declared.seen.Novelty.TheVariants.{New}
use Rattle.swh_dedup.specs.Seen.{kept_made, mapped_at, led_and, slot_at, IsNoted, TakesSlot}
use Rattle.swh_dedup.proofs.Elements.{first_is}
use Rattle.swh_dedup.proofs.Seens.{contains_at, not_none, not_true, same_stays, noted_then}
use Rattle.swh_dedup.proofs.Sharings.{if_ok_as, on_err_as}
use Rattle.swh_dedup.proofs.seen.note.Goals as goal

pub returns-in_default-clause-noted : goal.returns-in_default-clause-noted
returns-in_default-clause-noted c =
    let digest = c.digest_of-digest.result in
    let old = c.args.places.now in
    let slots = c.lead_slot.new.slots in
    let new : Places = record { slots = slots; first = old.first; further = old.further } in
    let t : TakesSlot digest c.args.place old.slots.items slots.items =
    subst (λ (o : Option ℕ). IfNone o (TakesSlot digest c.args.place old.slots.items slots.items)) c.in_default.is c.in_ok-known.ensures.new in
    subst (λ (d : ℕ). IsNoted (map kept_made c.args.made.now) d c.args.place (object_of c.args.name.now.kind c.args.body.now) old new New) c.digest_of-digest.ensures (
      record {
        there = subst (λ (o : Option ℕ). Contains (led_and o (mapped_at new digest)) c.args.place) (sym t.there) (first_is c.args.place (mapped_at new digest));
        taken = λ free. not_none (slot_at slots.items digest) c.args.place t.there free;
        stay = record { slots = c.lead_slot.ensures.stay; mapped = λ other k h. h };
      },
      λ taken. absurd (taken t.free),
    )

pub returns-then-stands_at-clause-noted : goal.returns-then-stands_at-clause-noted
returns-then-stands_at-clause-noted c = (
  record { slots = c.lead_slot.ensures.stay; mapped = λ other k h. h },
  contains_at (map kept_made c.args.made.now) c.in-Some.known (object_of c.args.name.now.kind c.args.body.now) (c.stands_at.ensures.0 c.if-stands_at.true),
)

pub returns-clause-noted : goal.returns-clause-noted
returns-clause-noted c =
    let digest = c.digest_of-digest.result in
    let old = c.args.places.now in
    let slots = c.lead_slot.new.slots in
    let m = object_of c.args.name.now.kind c.args.body.now in
    let led : slot_at slots.items digest ≡ Some c.in-Some.known =
    subst (λ (o : Option ℕ). IfSome o (λ k. slot_at slots.items digest ≡ Some k)) c.in-Some.is c.in_ok-known.ensures.known in
    subst (λ (d : ℕ). IfOk c.note_mapped.result (IsNoted (map kept_made c.args.made.now) d c.args.place m old c.note_mapped.new.places)) c.digest_of-digest.ensures
    (if_ok_as c.note_mapped.result _ _
    (noted_then (map kept_made c.args.made.now) digest c.args.place c.in-Some.known m old c.note_mapped.new.places slots c.lead_slot.ensures.stay led
    (λ e. not_true _ (c.stands_at.ensures.1 e) c.if-stands_at.false) c.note_mapped.ensures.slots)
    c.note_mapped.ensures.mapped)

pub returns-clause-err : goal.returns-clause-err
returns-clause-err c =
    let digest = c.digest_of-digest.result in
    let old = c.args.places.now in
    on_err_as c.note_mapped.result
    (same_stays (map kept_made c.args.made.now) digest c.args.place c.in-Some.known (object_of c.args.name.now.kind c.args.body.now) old c.note_mapped.new.places c.lead_slot.new.slots c.lead_slot.ensures.stay c.note_mapped.ensures.slots)
    c.note_mapped.ensures.err
