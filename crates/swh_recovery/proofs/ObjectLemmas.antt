-- An object at the front of the store's bytes, and its first harm.
use Rattle.std.proofs.Common.{◌≡◌, ℕ, ◌+◌, ◌<◌, ◌≤◌, ◌^◌, List, [], ◌∷◌, ◌++◌, length, drop, min, refl, sym, ap, ◌∙◌, subst, inl, inr, arith, length-append, append_assoc}
use Rattle.std.proofs.lemmas.List.{take-append-drop, take-take, length-take, append-nil}
use Rattle.std.proofs.Math.ListN.{drop_of_length-le}
use Rattle.std.proofs.Math.Nat.{eq-or-lt_of_le}
use Rattle.std.specs.Int.{w64, to_be_bytes}
use Rattle.swh_base.specs.Name.{kind_number}
use Rattle.swh_format.proofs.Cuts.{eight_bytes}
use Rattle.swh_format.specs.declared.kinds.Choice.{Choice}
use Rattle.swh_format.specs.declared.kinds.Choice.TheVariants as choice
use Rattle.swh_format.specs.declared.kinds.Field.{Field}
use Rattle.swh_format.specs.declared.kinds.Field.TheVariants as field
use Rattle.swh_format.proofs.Contents.{width, widths, field_short}
use Rattle.swh_recovery.specs.declared.harm.Found.{Found}
use Rattle.swh_recovery.specs.declared.object.Head.{Head}
use Rattle.swh_format.specs.Fields.{IsAmong}
use Rattle.swh_format.specs.Kinds.{choices, head_fields}
use Rattle.swh_recovery.specs.Fields.{IsCut, IsOther, FieldBreaks, FieldsBreak}
use Rattle.swh_recovery.specs.Reading.{window, IsHeadOf, BeginsWithHead}

module _ (bytes rest : List ℕ) (number at : ℕ) (found : Found) (is : bytes ≡ number ∷ rest) (among : IsAmong number (choices choice.Object)) where
  pub length_breaks : IsCut 8 rest (at + 1) found → FieldsBreak head_fields bytes at found
  length_breaks cut = inr (number ∷ [], rest, is, (number, refl, among), inl cut)

  pub id_breaks : (size : ℕ) (more : List ℕ) → rest ≡ to_be_bytes w64 size ++ more → IsCut 20 more (at + 9) found → FieldsBreak head_fields bytes at found
  id_breaks size more behind cut =
      let place : at + 9 ≡ at + 1 + 8 = omega arith in
      inr (number ∷ [], rest, is, (number, refl, among), inr (to_be_bytes w64 size, more, behind, eight_bytes size, inl (subst (λ (n : ℕ). IsCut 20 more n found) place cut)))

pub head_of : (bytes rest more id behind : List ℕ) (number size : ℕ) (h : Head) → bytes ≡ number ∷ rest → number ≡ kind_number h.kind → rest ≡ to_be_bytes w64 size ++ more → size ≡ h.size → more ≡ id ++ behind → id ≡ h.id → length id ≡ 20 → size < 2 ^ 64 → IsHeadOf bytes h behind
head_of bytes rest more id behind number size h is kind front sized ids same twenty fits = record {
  spelled = is ∙ (λ i. kind i ∷ (front ∙ (λ j. to_be_bytes w64 (sized j) ++ (ids ∙ ap (λ (l : List ℕ). l ++ behind) same) j)) i);
  twenty = ap length (sym same) ∙ twenty;
  fits = subst (λ (n : ℕ). n < 2 ^ 64) sized fits;
}

pub head-widths : widths head_fields ≡ 29
unfolding widths width
head-widths = refl

other_more : (c : Choice) (bytes more : List ℕ) (at : ℕ) (found : Found) → IsOther c bytes at found → IsOther c (bytes ++ more) at found
other_more c bytes more at found o = record { byte = o.byte; rest = o.rest ++ more; is = ap (λ (l : List ℕ). l ++ more) o.is; other = o.other; found_is = o.found_is }

field_more : (f : Field) (bytes more : List ℕ) (at : ℕ) (found : Found) → FieldBreaks f bytes at found → width f ≤ length bytes → FieldBreaks f (bytes ++ more) at found
unfolding width
field_more field.Four bytes more at found cut le = absurd (let s = cut.short in omega (arith, s, le))
field_more field.Eight bytes more at found cut le = absurd (let s = cut.short in omega (arith, s, le))
field_more field.Id bytes more at found cut le = absurd (let s = cut.short in omega (arith, s, le))
field_more (field.Byte c) bytes more at found h le = elim h [ inl cut ↦ absurd (let s = cut.short in omega (arith, s, le)) | inr o ↦ inr (other_more c bytes more at found o) ]
field_more field.Snapshot bytes more at found h le =
    elim h [
      | inl cut ↦ absurd (let s = cut.short in omega (arith, s, le))
      | inr h ↦ elim h [ inl o ↦ inr (inl (other_more choice.Snapshot bytes more at found o)) | inr i ↦ absurd (let s = i.cut.short in let l : length bytes ≡ length (1 ∷ i.rest) = ap length i.is in omega (arith, s, l, le)) ]
    ]

-- what breaks within enough bytes breaks with more behind them
pub breaks_more : (fs : List Field) (bytes more : List ℕ) (at : ℕ) (found : Found) → FieldsBreak fs bytes at found → widths fs ≤ length bytes → FieldsBreak fs (bytes ++ more) at found
unfolding widths
breaks_more [] bytes more at found h le = h
breaks_more (f ∷ fs) bytes more at found h le =
    elim h [
      | inl b ↦ inl (field_more f bytes more at found b (omega (arith, le)))
      | inr x ↦ inr (
        x.0,
        x.1 ++ more,
        ap (λ (l : List ℕ). l ++ more) x.2 ∙ append_assoc x.0 x.1 more,
        x.3,
        breaks_more fs x.1 more (at + length x.0) found x.4 (let w = field_short f x.0 x.3 in let l = ap length x.2 in omega (arith, le, w, l, length-append x.0 x.1)),
      )
    ]

nothing_behind : (seen : List ℕ) (at n have : ℕ) → n ≡ have → drop n (window seen at have) ≡ []
nothing_behind seen at n have is = drop_of_length-le (window seen at have) (let l = length-take have (drop at seen) in omega (arith, is, l))

-- the front of what stands there, as long as a head or as all of it
module _ (seen front : List ℕ) (at n have : ℕ) (is : front ≡ window seen at n) (size : length front ≡ n) (n_is : n ≡ min have 29) where
  splits : window seen at have ≡ front ++ drop n (window seen at have)
  splits = sym (take-append-drop n (window seen at have)) ∙ ap (λ (l : List ℕ). l ++ drop n (window seen at have)) (take-take n have (drop at seen) (omega (arith, n_is)) ∙ sym is)

  pub head_begins : (h : Head) (rest : List ℕ) → IsHeadOf front h rest → BeginsWithHead (window seen at have) h
  head_begins h rest is = record {
    rest = rest ++ drop n (window seen at have);
    is = record {
      spelled = splits ∙ ap (λ (l : List ℕ). l ++ drop n (window seen at have)) is.spelled
          ∙ ap (λ (l : List ℕ). kind_number h.kind ∷ l) (append_assoc (to_be_bytes w64 h.size) (h.id ++ rest) (drop n (window seen at have))
          ∙ ap (λ (l : List ℕ). to_be_bytes w64 h.size ++ l) (append_assoc h.id rest (drop n (window seen at have))));
      twenty = is.twenty;
      fits = is.fits;
    };
  }

  pub head_breaks : (found : Found) → FieldsBreak head_fields front at found → FieldsBreak head_fields (window seen at have) at found
  head_breaks found b =
      elim (eq-or-lt_of_le (let le : n ≤ 29 = omega (arith, n_is) in le)) [
        | inl e ↦ subst (λ (l : List ℕ). FieldsBreak head_fields l at found) (sym splits) (breaks_more head_fields front (drop n (window seen at have)) at found b (let w = head-widths in omega (arith, w, size, e)))
        | inr lt ↦ subst (λ (l : List ℕ). FieldsBreak head_fields l at found) (sym (splits ∙ ap (λ (l : List ℕ). front ++ l) (nothing_behind seen at n have (omega (arith, n_is, lt))) ∙ append-nil front)) b
      ]

-- a head has 29 bytes
pub head_long : (bytes rest : List ℕ) (h : Head) → IsHeadOf bytes h rest → 29 ≤ length bytes
head_long bytes rest h is =
    let l = ap length is.spelled in let t = is.twenty in
    omega (arith, l, t, length-append (to_be_bytes w64 h.size) (h.id ++ rest), length-append h.id rest, eight_bytes h.size)
