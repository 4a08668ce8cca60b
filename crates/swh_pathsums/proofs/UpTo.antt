-- Sums and products, as far as numbers go.
use Rattle.std.proofs.Common.{◌≡◌, ◌⊎◌, inl, inr, ℕ, zero, suc, ◌+◌, ◌*◌, ◌-◌, ◌^◌, ◌<◌, ◌≤◌, min, refl, sym, ap, ◌∙◌, subst, arith}
use Rattle.std.proofs.Math.Nat.{le-mul_of_pos_right, mul-zero}
use Rattle.std.proofs.lemmas.Bool.{cases_lt}
use Rattle.swh_pathsums.specs.Lengths.{IsUpTo}

-- a number, as far as 64 bits go
pub up_min : (exact found : ℕ) → found ≡ min exact (2 ^ 64 - 1) → IsUpTo exact found
up_min exact found is =
    elim (cases_lt exact (2 ^ 64)) [
      | inl less ↦ inl (omega (arith, is, less))
      | inr more ↦ inr (omega (arith, is, more), omega (arith, more))
    ]

-- what is up to a number that is up to another
pub up_up : (exact middle found : ℕ) → IsUpTo exact middle → IsUpTo middle found → IsUpTo exact found
up_up exact middle found (inl e) (inl f) = inl (f ∙ e)
up_up exact middle found (inl e) (inr (big, over)) = inr (big, subst (λ (n : ℕ). 2 ^ 32 < n) e over)
up_up exact middle found (inr (over, large)) (inl f) = inr (subst (λ (n : ℕ). 2 ^ 32 < n) (sym f) over, large)
up_up exact middle found (inr (over, large)) (inr (big, also)) = inr (big, large)

sum_up : (m n a b : ℕ) → IsUpTo m a → IsUpTo n b → IsUpTo (m + n) (a + b)
sum_up m n a b (inl e) (inl f) = inl (omega (arith, e, f))
sum_up m n a b (inl e) (inr (big, over)) = inr (omega (arith, big), omega (arith, over))
sum_up m n a b (inr (big, over)) y = inr (omega (arith, big), omega (arith, over))

pub up_plus : (m n a b s : ℕ) → s ≡ min (a + b) (2 ^ 64 - 1) → IsUpTo m a → IsUpTo n b → IsUpTo (m + n) s
up_plus m n a b s is x y = up_up (m + n) (a + b) s (sum_up m n a b x y) (up_min (a + b) s is)

large : (a b : ℕ) → 2 ^ 32 < a → 0 < b → 2 ^ 32 < a * b
large a b big some = let more = le-mul_of_pos_right {m = b} a some in omega (arith, big, more)

large_right : (a b : ℕ) → 0 < a → 2 ^ 32 < b → 2 ^ 32 < a * b
large_right a b some big = subst (λ (n : ℕ). 2 ^ 32 < n) (grind arith) (large b a big some)

product_up : (m n a b : ℕ) → IsUpTo m a → IsUpTo n b → IsUpTo (m * n) (a * b)
product_up m n a b (inl e) (inl f) = inl (ap (λ (x : ℕ). x * b) e ∙ ap (λ (x : ℕ). m * x) f)
product_up m zero a b (inr (big, over)) (inl f) = inl (ap (λ (x : ℕ). a * x) f ∙ mul-zero a ∙ sym (mul-zero m))
product_up m (suc n) a b (inr (big, over)) (inl f) = inr (large a b big (omega (arith, f)), large m (suc n) over (omega arith))
product_up m n a b (inr (big, over)) (inr (more, also)) = inr (large a b big (omega (arith, more)), large m n over (omega (arith, also)))
product_up zero n a b (inl e) (inr (more, also)) = inl (ap (λ (x : ℕ). x * b) e ∙ grind arith)
product_up (suc m) n a b (inl e) (inr (more, also)) = inr (large_right a b (omega (arith, e)) more, large_right (suc m) n (omega arith) also)

pub up_times : (m n a b s : ℕ) → s ≡ min (a * b) (2 ^ 64 - 1) → IsUpTo m a → IsUpTo n b → IsUpTo (m * n) s
up_times m n a b s is x y = up_up (m * n) (a * b) s (product_up m n a b x y) (up_min (a * b) s is)
