-- The fields at the front of bytes break in one way at most, and so does a record by its own bytes.
use Rattle.std.proofs.Common.{◌≡◌, ℕ, ◌+◌, List, [], ◌∷◌, ◌++◌, length, refl, sym, ap, ◌∙◌, subst, inl, inr, arith, length-append}
use Rattle.swh_model.specs.declared.event.Event.{Event}
use Rattle.swh_format.specs.EventRecord.{event_byte, payload_of, coded_record, IsCodable}
use Rattle.swh_format.proofs.Contents.{spells_hold, one_spelling}
use Rattle.swh_format.proofs.Cuts.{cut, same_head, same_tail}
use Rattle.swh_format.proofs.KindLaws.{byte_among, payload-short, payload_holds}
use Rattle.swh_format.proofs.Unique.{same_frame, framed_then}
use Rattle.swh_format.specs.declared.kinds.Choice.{Choice}
use Rattle.swh_format.specs.declared.kinds.Choice.TheVariants as choice
use Rattle.swh_format.specs.declared.kinds.Field.{Field}
use Rattle.swh_format.specs.declared.kinds.Field.TheVariants as field
use Rattle.swh_recovery.specs.declared.harm.Harm.TheVariants.{Kind, Short}
use Rattle.swh_recovery.specs.declared.harm.Found.{Found}
use Rattle.swh_format.specs.Fields.{FieldsHold, Spells}
use Rattle.swh_recovery.specs.Fields.{found_at, IsCut, IsOther, IsIdCut, FieldBreaks, FieldsBreak}
use Rattle.swh_format.specs.Kinds.{frame_fields, payload_fields}
use Rattle.swh_recovery.specs.LedgerHarm.{frame_size, BeginsRecord, RecordBreaks}
use Rattle.swh_recovery.proofs.LadderLaws.{field_size, no_other, no_cut, no_break, not_both}

one_cut : (need need' : ℕ) (bytes bytes' : List ℕ) (at : ℕ) (x y : Found) → need ≡ need' → bytes ≡ bytes' → IsCut need bytes at x → IsCut need' bytes' at y → x ≡ y
one_cut need need' bytes bytes' at x y needs same a b = a.found_is ∙ (λ i. found_at at (Short (length (same i)) (needs i))) ∙ sym b.found_is

one_other : (c : Choice) (bytes : List ℕ) (at : ℕ) (x y : Found) → IsOther c bytes at x → IsOther c bytes at y → x ≡ y
one_other c bytes at x y a b = a.found_is ∙ ap (λ (n : ℕ). found_at at (Kind n)) (same_head a.byte b.byte a.rest b.rest (sym a.is ∙ b.is)) ∙ sym b.found_is

one_id_cut : (bytes : List ℕ) (at : ℕ) (x y : Found) → IsIdCut bytes at x → IsIdCut bytes at y → x ≡ y
one_id_cut bytes at x y a b = one_cut 20 20 a.rest b.rest (at + 1) x y refl (same_tail 1 1 a.rest b.rest (sym a.is ∙ b.is)) a.cut b.cut

-- a byte that may not be there is a byte
cut_or_other : (c : Choice) (bytes : List ℕ) (at : ℕ) (x y : Found) → IsCut 1 bytes at x → IsOther c bytes at y → ⊥
cut_or_other c bytes at x y a b = no_cut bytes b.rest at b.byte x b.is a

cut_or_id : (bytes : List ℕ) (at : ℕ) (x y : Found) → IsCut 1 bytes at x → IsIdCut bytes at y → ⊥
cut_or_id bytes at x y a b = no_cut bytes b.rest at 1 x b.is a

other_or_id : (bytes : List ℕ) (at : ℕ) (x y : Found) → IsOther choice.Snapshot bytes at x → IsIdCut bytes at y → ⊥
other_or_id bytes at x y a b = no_other choice.Snapshot bytes b.rest at 1 x b.is (inr (inl refl)) a

one_break : (f : Field) (bytes : List ℕ) (at : ℕ) (x y : Found) → FieldBreaks f bytes at x → FieldBreaks f bytes at y → x ≡ y
one_break field.Four bytes at x y a b = one_cut 4 4 bytes bytes at x y refl refl a b
one_break field.Eight bytes at x y a b = one_cut 8 8 bytes bytes at x y refl refl a b
one_break field.Id bytes at x y a b = one_cut 20 20 bytes bytes at x y refl refl a b
one_break (field.Byte c) bytes at x y a b =
    elim a [
      | inl a ↦ elim b [ inl b ↦ one_cut 1 1 bytes bytes at x y refl refl a b | inr b ↦ absurd (cut_or_other c bytes at x y a b) ]
      | inr a ↦ elim b [ inl b ↦ absurd (cut_or_other c bytes at y x b a) | inr b ↦ one_other c bytes at x y a b ]
    ]
one_break field.Snapshot bytes at x y a b =
    elim a [
      | inl a ↦ elim b [
        | inl b ↦ one_cut 1 1 bytes bytes at x y refl refl a b
        | inr b ↦ elim b [ inl b ↦ absurd (cut_or_other choice.Snapshot bytes at x y a b) | inr b ↦ absurd (cut_or_id bytes at x y a b) ]
      ]
      | inr a ↦ elim a [
        | inl a ↦ elim b [
          | inl b ↦ absurd (cut_or_other choice.Snapshot bytes at y x b a)
          | inr b ↦ elim b [ inl b ↦ one_other choice.Snapshot bytes at x y a b | inr b ↦ absurd (other_or_id bytes at x y a b) ]
        ]
        | inr a ↦ elim b [
          | inl b ↦ absurd (cut_or_id bytes at y x b a)
          | inr b ↦ elim b [ inl b ↦ absurd (other_or_id bytes at y x b a) | inr b ↦ one_id_cut bytes at x y a b ]
        ]
      ]
    ]

pub one_fields : (fs : List Field) (bytes : List ℕ) (at : ℕ) (x y : Found) → FieldsBreak fs bytes at x → FieldsBreak fs bytes at y → x ≡ y
one_fields [] bytes at x y a b = absurd a
one_fields (f ∷ fs) bytes at x y a b =
    elim a [
      | inl a ↦ elim b [ inl b ↦ one_break f bytes at x y a b | inr b ↦ absurd (no_break f bytes b.0 b.1 at x b.2 b.3 a) ]
      | inr a ↦ elim b [
        | inl b ↦ absurd (no_break f bytes a.0 a.1 at y a.2 a.3 b)
        | inr b ↦
            (let sizes = field_size f a.0 b.0 a.1 b.1 a.3 b.3 (sym a.2 ∙ b.2) in
            let same = cut a.0 b.0 a.1 b.1 sizes (sym a.2 ∙ b.2) in
            one_fields fs b.1 (at + length b.0) x y
            (subst (λ (n : ℕ). FieldsBreak fs b.1 (at + n) x) sizes (subst (λ (l : List ℕ). FieldsBreak fs l (at + length a.0) x) same.1 a.4)) b.4)
      ]
    ]

-- the frame of a record
abbrev pub frame_of : (bytes : List ℕ) → BeginsRecord bytes → Spells frame_fields bytes
frame_of bytes r = record {
  holds = (r.kind, (length r.payload, tt));
  behind = r.payload ++ r.rest;
  says = record { spelled = r.spelled ∙ framed_then r.kind r.payload r.rest; fit = (r.is_kind, (r.fits, tt)) };
}

frame_holds : (bytes : List ℕ) → Spells frame_fields bytes → FieldsHold frame_fields bytes
frame_holds bytes f = spells_hold frame_fields bytes f

-- a record's payload is there
whole_or_cut : (bytes : List ℕ) (r : BeginsRecord bytes) (f : Spells frame_fields bytes) (at : ℕ) (x : Found) → IsCut (frame_size f.holds) f.behind at x → ⊥
whole_or_cut bytes r f at x c =
    let same = one_spelling frame_fields bytes bytes f (frame_of bytes r) refl in
    let s = c.short in let l = ap length same.1 in let n = ap frame_size same.0 in
    omega (arith, s, l, n, length-append r.payload r.rest)

-- two records at the front of the same bytes
pub same_records : (bytes bytes' : List ℕ) (r : BeginsRecord bytes) (s : BeginsRecord bytes') → bytes ≡ bytes' → (r.kind ≡ s.kind) × (r.payload ≡ s.payload) × (r.rest ≡ s.rest)
same_records bytes bytes' r s same = same_frame r.kind s.kind r.payload s.payload r.rest s.rest r.fits s.fits (sym r.spelled ∙ same ∙ s.spelled)

-- a record that has its fields does not break
pub no_record : (bytes : List ℕ) (r : BeginsRecord bytes) (at : ℕ) (x : Found) → FieldsHold (payload_fields r.kind) r.payload → RecordBreaks bytes at x → ⊥
no_record bytes r at x holds breaks =
    elim breaks [
      | inl b ↦ not_both frame_fields bytes at x (frame_holds bytes (frame_of bytes r)) b
      | inr b ↦ elim b [
        | inl c ↦ whole_or_cut bytes r c.frame (at + 5) x c.cut
        | inr p ↦
            (let same = same_records bytes bytes p.frame r refl in
            let here : FieldsBreak (payload_fields r.kind) r.payload (at + 5) x = subst (λ (l : List ℕ). FieldsBreak (payload_fields r.kind) l (at + 5) x) same.1 (subst (λ (n : ℕ). FieldsBreak (payload_fields n) p.frame.payload (at + 5) x) same.0 p.breaks) in
            not_both (payload_fields r.kind) r.payload (at + 5) x holds here)
      ]
    ]

pub one_record : (bytes : List ℕ) (at : ℕ) (x y : Found) → RecordBreaks bytes at x → RecordBreaks bytes at y → x ≡ y
one_record bytes at x y a b =
    elim a [
      | inl a ↦ elim b [
        | inl b ↦ one_fields frame_fields bytes at x y a b
        | inr b ↦ elim b [ inl b ↦ absurd (not_both frame_fields bytes at x (frame_holds bytes b.frame) a) | inr b ↦ absurd (not_both frame_fields bytes at x (frame_holds bytes (frame_of bytes b.frame)) a) ]
      ]
      | inr a ↦ elim a [
        | inl a ↦ elim b [
          | inl b ↦ absurd (not_both frame_fields bytes at y (frame_holds bytes a.frame) b)
          | inr b ↦ elim b [
            | inl b ↦ (let same = one_spelling frame_fields bytes bytes a.frame b.frame refl in one_cut (frame_size a.frame.holds) (frame_size b.frame.holds) a.frame.behind b.frame.behind (at + 5) x y (ap frame_size same.0) same.1 a.cut b.cut)
            | inr b ↦ absurd (whole_or_cut bytes b.frame a.frame (at + 5) x a.cut)
          ]
        ]
        | inr a ↦ elim b [
          | inl b ↦ absurd (not_both frame_fields bytes at y (frame_holds bytes (frame_of bytes a.frame)) b)
          | inr b ↦ elim b [
            | inl b ↦ absurd (whole_or_cut bytes a.frame b.frame (at + 5) y b.cut)
            | inr b ↦
                (let same = same_records bytes bytes a.frame b.frame refl in
                one_fields (payload_fields b.frame.kind) b.frame.payload (at + 5) x y
                (subst (λ (l : List ℕ). FieldsBreak (payload_fields b.frame.kind) l (at + 5) x) same.1 (subst (λ (n : ℕ). FieldsBreak (payload_fields n) a.frame.payload (at + 5) x) same.0 a.breaks)) b.breaks)
          ]
        ]
      ]
    ]

-- an event's record at the front of bytes
unfoldable pub event_frame : (start : ℕ) (e : Event) (behind x : List ℕ) → IsCodable start e → behind ≡ coded_record start e ++ x → BeginsRecord behind
event_frame start e behind x codable is = record { kind = event_byte e.what; payload = payload_of start e; rest = x; spelled = is; is_kind = byte_among e.what; fits = payload-short start e codable }

-- an event's record does not break by its own bytes
pub record_whole : (start : ℕ) (e : Event) (behind x : List ℕ) (at : ℕ) (found : Found) → IsCodable start e → behind ≡ coded_record start e ++ x → RecordBreaks behind at found → ⊥
unfolding event_frame
record_whole start e behind x at found codable is breaks = no_record behind (event_frame start e behind x codable is) at found (payload_holds start e codable) breaks
