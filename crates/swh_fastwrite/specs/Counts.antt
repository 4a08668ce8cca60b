-- A count of bytes, as far as a number goes.
use Rattle.std.proofs.Common.{◌≡◌, ◌⊎◌, inl, inr, ℕ, ◌+◌, ◌-◌, ◌^◌, ◌≤◌, List, ◌++◌, length, sym, ap, ◌∙◌, subst}
use Rattle.std.proofs.Math.Nat.{le-add_right, le_trans, add_assoc, add-zero}
use Rattle.std.proofs.lemmas.List.{length-append}
use Rattle.swh_fastwrite.specs.Held.{AddsUp}

-- The count went up by the bytes of the text, or stands at the end of what a number tells, as it has to.
abbrev pub Counts : ℕ → List ℕ → ℕ → Type 0
Counts old text new = (new ≡ old + length text) ⊎ ((2 ^ 64 - 1 ≤ new) × (2 ^ 64 - 1 ≤ old + length text))

-- A count never fails.
abbrev pub AnyFront : ℕ → List ℕ → ℕ → Type 0
AnyFront old text new = Unit {0}

-- ---- that counts add up

sum_is : (a : ℕ) (s t : List ℕ) → (a + length s) + length t ≡ a + length (s ++ t)
sum_is a s t = add_assoc a (length s) (length t) ∙ ap (λ (n : ℕ). a + n) (sym (length-append s t))

at_end : (last a : ℕ) (s t : List ℕ) → last ≤ a + length s → last ≤ a + length (s ++ t)
at_end last a s t sum = subst (λ (n : ℕ). last ≤ n) (sum_is a s t) (le_trans sum (le-add_right (a + length s) (length t)))

counts_both : (a b c : ℕ) (s t : List ℕ) → Counts a s b → Counts b t c → Counts a (s ++ t) c
counts_both a b c s t (inl f) (inl g) = inl (g ∙ ap (λ (n : ℕ). n + length t) f ∙ sum_is a s t)
counts_both a b c s t (inl f) (inr (over, sum)) = inr (over, subst (λ (n : ℕ). 2 ^ 64 - 1 ≤ n) (ap (λ (n : ℕ). n + length t) f ∙ sum_is a s t) sum)
counts_both a b c s t (inr (over, sum)) (inl g) = inr (subst (λ (n : ℕ). 2 ^ 64 - 1 ≤ n) (sym g) (le_trans over (le-add_right b (length t))), at_end (2 ^ 64 - 1) a s t sum)
counts_both a b c s t (inr (over, sum)) (inr (more, also)) = inr (more, at_end (2 ^ 64 - 1) a s t sum)

pub counts_add_up : {C : Type 0} (count : C → ℕ) → AddsUp {T = C} (λ a t b. Counts (count a) t (count b)) (λ a t b. AnyFront (count a) t (count b))
counts_add_up count = record {
  none = λ a. inl (sym (add-zero (count a)));
  both = λ a b c s t f g. counts_both (count a) (count b) (count c) s t f g;
  front_none = λ a t. tt;
  front_behind = λ a b c s t f g. tt;
  front_more = λ a b s t f. tt;
}
