-- Bytes that begin with fields do not break in them.
use Rattle.std.proofs.Common.{◌≡◌, ℕ, ◌+◌, List, [], ◌∷◌, ◌++◌, length, sym, ap, ◌∙◌, subst, refl, inl, inr, arith, length-append}
use Rattle.swh_format.specs.declared.kinds.Choice.{Choice}
use Rattle.swh_format.specs.declared.kinds.Choice.TheVariants as choice
use Rattle.swh_format.specs.declared.kinds.Field.{Field}
use Rattle.swh_format.specs.declared.kinds.Field.TheVariants as field
use Rattle.swh_format.specs.Fields.{IsAmong, IsField, FieldsHold}
use Rattle.swh_format.specs.Kinds.{choices}
use Rattle.swh_format.proofs.Cuts.{cut, same_head, same_tail}
use Rattle.swh_recovery.specs.declared.harm.Found.{Found}
use Rattle.swh_recovery.specs.Fields.{IsCut, IsOther, FieldBreaks, FieldsBreak}

pub field_size : (f : Field) (a b x y : List ℕ) → IsField f a → IsField f b → a ++ x ≡ b ++ y → length a ≡ length b
field_size field.Four a b x y ha hb e = ha ∙ sym hb
field_size field.Eight a b x y ha hb e = ha ∙ sym hb
field_size field.Id a b x y ha hb e = ha ∙ sym hb
field_size (field.Byte c) a b x y ha hb e = ap length ha.1 ∙ sym (ap length hb.1)
field_size field.Snapshot a b x y ha hb e =
    elim ha [
      | inl p ↦ elim hb [ inl q ↦ ap length p ∙ sym (ap length q) | inr q ↦ absurd (omega (arith, same_head 0 1 x (q.0 ++ y) (sym (ap (λ (l : List ℕ). l ++ x) p) ∙ e ∙ ap (λ (l : List ℕ). l ++ y) q.1))) ]
      | inr p ↦ elim hb [
        | inl q ↦ absurd (omega (arith, same_head 1 0 (p.0 ++ x) y (sym (ap (λ (l : List ℕ). l ++ x) p.1) ∙ e ∙ ap (λ (l : List ℕ). l ++ y) q)))
        | inr q ↦ (let s = p.2 in let t = q.2 in let m : length a ≡ length (1 ∷ p.0) = ap length p.1 in let n : length b ≡ length (1 ∷ q.0) = ap length q.1 in omega (arith, s, t, m, n))
      ]
    ]

pub no_other : (c : Choice) (bytes rest : List ℕ) (at b : ℕ) (found : Found) → bytes ≡ b ∷ rest → IsAmong b (choices c) → IsOther c bytes at found → ⊥
no_other c bytes rest at b found is among o = o.other (subst (λ (n : ℕ). IsAmong n (choices c)) (same_head b o.byte rest o.rest (sym is ∙ o.is)) among)

pub no_cut : (bytes rest : List ℕ) (at b : ℕ) (found : Found) → bytes ≡ b ∷ rest → IsCut 1 bytes at found → ⊥
no_cut bytes rest at b found is c = let s = c.short in let l : length bytes ≡ length (b ∷ rest) = ap length is in omega (arith, s, l)

not_short : (n : ℕ) (bytes front rest : List ℕ) (at : ℕ) (found : Found) → bytes ≡ front ++ rest → length front ≡ n → IsCut n bytes at found → ⊥
not_short n bytes front rest at found is h c = let s = c.short in let l = ap length is in omega (arith, s, l, h, length-append front rest)

pub no_break : (f : Field) (bytes front rest : List ℕ) (at : ℕ) (found : Found) → bytes ≡ front ++ rest → IsField f front → FieldBreaks f bytes at found → ⊥
no_break field.Four bytes front rest at found is h c = not_short 4 bytes front rest at found is h c
no_break field.Eight bytes front rest at found is h c = not_short 8 bytes front rest at found is h c
no_break field.Id bytes front rest at found is h c = not_short 20 bytes front rest at found is h c
no_break (field.Byte k) bytes front rest at found is h b =
    let begins : bytes ≡ h.0 ∷ rest = is ∙ ap (λ (l : List ℕ). l ++ rest) h.1 in
    elim b [ inl c ↦ no_cut bytes rest at h.0 found begins c | inr o ↦ no_other k bytes rest at h.0 found begins h.2 o ]
no_break field.Snapshot bytes front rest at found is h b =
    elim h [
      | inl p ↦ (let begins : bytes ≡ 0 ∷ rest = is ∙ ap (λ (l : List ℕ). l ++ rest) p in
          elim b [
            | inl c ↦ no_cut bytes rest at 0 found begins c
            | inr b ↦ elim b [ inl o ↦ no_other choice.Snapshot bytes rest at 0 found begins (inl refl) o | inr i ↦ omega (arith, same_head 0 1 rest i.rest (sym begins ∙ i.is)) ]
          ])
      | inr p ↦ (let begins : bytes ≡ 1 ∷ (p.0 ++ rest) = is ∙ ap (λ (l : List ℕ). l ++ rest) p.1 in
          elim b [
            | inl c ↦ no_cut bytes (p.0 ++ rest) at 1 found begins c
            | inr b ↦ elim b [
              | inl o ↦ no_other choice.Snapshot bytes (p.0 ++ rest) at 1 found begins (inr (inl refl)) o
              | inr i ↦ (let s = i.cut.short in let t = p.2 in let l = ap length (same_tail 1 1 (p.0 ++ rest) i.rest (sym begins ∙ i.is)) in omega (arith, s, t, l, length-append p.0 rest))
            ]
          ])
    ]

-- what begins with fields does not break in them
pub not_both : (fs : List Field) (bytes : List ℕ) (at : ℕ) (found : Found) → FieldsHold fs bytes → FieldsBreak fs bytes at found → ⊥
not_both [] bytes at found h b = b
not_both (f ∷ fs) bytes at found h b =
    elim b [
      | inl here ↦ no_break f bytes h.0 h.1 at found h.2 h.3 here
      | inr x ↦
          (let same = cut h.0 x.0 h.1 x.1 (field_size f h.0 x.0 h.1 x.1 h.3 x.3 (sym h.2 ∙ x.2)) (sym h.2 ∙ x.2) in
          not_both fs x.1 (at + length x.0) found (subst (λ (l : List ℕ). FieldsHold fs l) same.1 h.4) x.4)
    ]
