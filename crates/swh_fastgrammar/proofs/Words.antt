-- A text says one mark, commit-ish, mode, id or path at most.
use Rattle.std.proofs.Common.{◌≡◌, ◌≢◌, ℕ, zero, suc, ◌==◌, if◌then◌else◌, inl, inr, Bool, true, false, List, [], ◌∷◌, ◌++◌, length, length-append, Contains, refl, sym, ap, ◌∙◌, subst, arith, codes}
use Rattle.std.specs.List.{AllPass}
use Rattle.swh_base.proofs.HexLines.{hex-injective, length-hex}
use Rattle.swh_base.proofs.Splits.{sized_split, absent}
use Rattle.swh_fastlex.specs.Path.{NamesPath}
use Rattle.swh_fastlex.proofs.Pieces.{one_form}
use Rattle.swh_base.specs.Text.{IsNumber, IsRef, value_from, is_digit, is_ref_byte}
use Rattle.swh_base.proofs.Elementary.{append_nil}
use Rattle.swh_fastgrammar.specs.declared.command.Commitish.{Commitish}
use Rattle.swh_fastgrammar.specs.declared.command.Commitish.TheVariants.{Mark, Branch}
use Rattle.swh_fastgrammar.specs.Word.{IsMark, NamesCommit, IsMode, SpellsId}
use Rattle.swh_fastgrammar.proofs.Rows.{in_tail}

-- the first byte, the second, and all but the first
abbrev first : List ℕ → ℕ
first [] = 0
first (c ∷ cs) = c

abbrev tail : List ℕ → List ℕ
tail [] = []
tail (c ∷ cs) = cs

pub one_mark : (text : List ℕ) (m n : ℕ) → IsMark text m → IsMark text n → m ≡ n
one_mark text m n h k = h.number.value ∙ sym k.number.value

pub same_front : (a b x : List ℕ) → a ++ x ≡ b ++ x → a ≡ b
same_front a b x e = (sized_split a b x x (omega (arith, ap length e, length-append a x, length-append b x)) e).0

-- a byte that does not pass is not among bytes that pass
pub not_among : (f : ℕ → Bool) (c : ℕ) (xs : List ℕ) → f c ≡ false → AllPass f xs → Contains xs c → ⊥
not_among f c [] n h k = let l = k.1 in absurd (omega (arith, l))
not_among f c (x ∷ xs) n h (zero, l, e) = let t : f c ≡ true = subst (λ (d : ℕ). f d ≡ true) e (h zero 0 (omega arith)) in absurd cc
not_among f c (x ∷ xs) n h (suc i, l, e) = not_among f c xs n (λ j d m. h (suc j) d (omega (arith, m))) (i, omega (arith, l), e)

pub no_colon : (ref number t : List ℕ) → IsRef ref → ref ++ t ≡ 58 ∷ number → ⊥
no_colon [] number t h e = let s = h.some in omega (arith, s)
no_colon (c ∷ ref) number t h e =
    not_among is_ref_byte 58 (c ∷ ref) refl h.bytes (0, omega arith, ap first e)

no_caret : (ref other : List ℕ) → IsRef ref → ref ≡ other ++ codes "^0" → ⊥
no_caret ref other h e = not_among is_ref_byte 94 ref refl h.bytes (subst (λ (t : List ℕ). Contains t 94) (sym e) (in_tail other (codes "^0") 94 (0, omega arith, refl)))

pub one_commit : (text : List ℕ) (x y : Commitish) → NamesCommit text x → NamesCommit text y → x ≡ y
one_commit text (Mark m) (Mark n) h k =
    let texts : h.0 ≡ k.0 = ap tail (sym h.1 ∙ k.1) in
    ap Mark (one_mark k.0 m n (subst (λ (t : List ℕ). IsMark t m) texts h.2) k.2)
one_commit text (Mark m) (Branch ref) h (r, inl k) = absurd (no_colon ref h.0 [] r (append_nil ref ∙ sym k ∙ h.1))
one_commit text (Mark m) (Branch ref) h (r, inr k) = absurd (no_colon ref h.0 (codes "^0") r (sym k ∙ h.1))
one_commit text (Branch ref) (Mark m) (r, inl h) k = absurd (no_colon ref k.0 [] r (append_nil ref ∙ sym h ∙ k.1))
one_commit text (Branch ref) (Mark m) (r, inr h) k = absurd (no_colon ref k.0 (codes "^0") r (sym h ∙ k.1))
one_commit text (Branch ref) (Branch other) (r, inl h) (s, inl k) = ap Branch (sym h ∙ k)
one_commit text (Branch ref) (Branch other) (r, inl h) (s, inr k) = absurd (no_caret ref other r (sym h ∙ k))
one_commit text (Branch ref) (Branch other) (r, inr h) (s, inl k) = absurd (no_caret other ref s (sym k ∙ h))
one_commit text (Branch ref) (Branch other) (r, inr h) (s, inr k) = ap Branch (same_front ref other (codes "^0") (sym h ∙ k))

abbrev full_mode : ℕ → ℕ
full_mode n = if n == 644 then 100644 else if n == 755 then 100755 else n

mode_value : (text : List ℕ) (m : ℕ) → IsMode text m → m ≡ full_mode (value_from 0 text)
mode_value text m (inl h) = h.1 ∙ ap (λ (t : List ℕ). full_mode (value_from 0 t)) (sym h.0)
mode_value text m (inr (inl h)) = h.1 ∙ ap (λ (t : List ℕ). full_mode (value_from 0 t)) (sym h.0)
mode_value text m (inr (inr (inl h))) = h.1 ∙ ap (λ (t : List ℕ). full_mode (value_from 0 t)) (sym h.0)
mode_value text m (inr (inr (inr (inl h)))) = h.1 ∙ ap (λ (t : List ℕ). full_mode (value_from 0 t)) (sym h.0)
mode_value text m (inr (inr (inr (inr h)))) = h.1 ∙ ap (λ (t : List ℕ). full_mode (value_from 0 t)) (sym h.0)

pub one_mode : (text : List ℕ) (m n : ℕ) → IsMode text m → IsMode text n → m ≡ n
one_mode text m n h k = mode_value text m h ∙ sym (mode_value text n k)

-- what holds of each of the five texts holds of each mode's text
by_mode : (P : List ℕ → Type 0) (text : List ℕ) (m : ℕ) → IsMode text m → P (codes "100644") → P (codes "644") → P (codes "100755") → P (codes "755") → P (codes "120000") → P text
by_mode P text m (inl h) a b c d e = subst P (sym h.0) a
by_mode P text m (inr (inl h)) a b c d e = subst P (sym h.0) b
by_mode P text m (inr (inr (inl h))) a b c d e = subst P (sym h.0) c
by_mode P text m (inr (inr (inr (inl h)))) a b c d e = subst P (sym h.0) d
by_mode P text m (inr (inr (inr (inr h)))) a b c d e = subst P (sym h.0) e

pub mode-no_space : (text : List ℕ) (m : ℕ) → IsMode text m → Contains text 32 → ⊥
mode-no_space text m h = by_mode (λ t. Contains t 32 → ⊥) text m h (absent 32 (codes "100644") refl) (absent 32 (codes "644") refl) (absent 32 (codes "100755") refl) (absent 32 (codes "755") refl) (absent 32 (codes "120000") refl)

pub mode-no_link : (text : List ℕ) (m : ℕ) → IsMode text m → text ≡ codes "160000" → ⊥
mode-no_link text m h = by_mode (λ t. t ≡ codes "160000" → ⊥) text m h (λ e. let n : 48 ≡ 54 = ap (λ (t : List ℕ). first (tail t)) e in absurd (omega (arith, n))) (λ e. let n : 54 ≡ 49 = ap (λ (t : List ℕ). first t) e in absurd (omega (arith, n))) (λ e. let n : 48 ≡ 54 = ap (λ (t : List ℕ). first (tail t)) e in absurd (omega (arith, n))) (λ e. let n : 55 ≡ 49 = ap (λ (t : List ℕ). first t) e in absurd (omega (arith, n))) (λ e. let n : 50 ≡ 54 = ap (λ (t : List ℕ). first (tail t)) e in absurd (omega (arith, n)))

pub number-no_space : (text : List ℕ) (n : ℕ) → IsNumber text n → Contains text 32 → ⊥
number-no_space text n h k = not_among is_digit 32 text refl h.digits k

pub one_id : (text a b : List ℕ) → SpellsId text a → SpellsId text b → a ≡ b
one_id text a b h k = hex-injective a b h.1.1 k.1.1 (sym h.0 ∙ k.0)

pub same_id_length : (x y a b : List ℕ) → SpellsId x a → SpellsId y b → length x ≡ length y
same_id_length x y a b h k = ap length h.0 ∙ length-hex a b (h.1.0 ∙ sym k.1.0) ∙ ap length (sym k.0)

feed_is_no_quote : ◌≢◌ {A = ℕ} 10 34
feed_is_no_quote e = absurd (omega (arith, e))

pub one_path : (text x y : List ℕ) → NamesPath text x → NamesPath text y → x ≡ y
one_path text x y h k = (one_form 10 text text x y [] [] feed_is_no_quote refl h.1 k.1).0
