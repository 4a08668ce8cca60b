-- What is heard of a source.
use Rattle.std.proofs.Common.{◌≡◌, ℕ, zero, suc, ◌≤◌, Bool, true, false, List, [], ◌++◌, length, take, refl, ap, ◌∙◌, arith, length-take, Ok}
use Rattle.std.specs.Prelude.{◌≢◌, ◌==◌, ◌||◌}
use Rattle.std.proofs.lemmas.Bool.Decides.{nat_tests}
use Rattle.swh_outside.specs.Source.{IsHeard}

or-last : (b : Bool) → (b || true) ≡ true
or-last true = refl
or-last false = refl

or-none : (b : Bool) → (b || false) ≡ b
or-none true = refl
or-none false = refl

no-zero : (n : ℕ) → (n ≡ 0 → ⊥) → (n == 0) ≡ false
no-zero zero some = absurd (some refl)
no-zero (suc n) some = grind (arith, nat_tests)

-- nothing was given, and the end was met
pub heard-end : {E : Type 0} (given : List ℕ) (ended : Bool) (out now : List ℕ) (met : Bool) (n : ℕ) → IsHeard {E = E} given ended out now met (Ok n)
    → n ≡ 0 → (now ≡ given ++ []) × (met ≡ true)
heard-end given ended out now met n heard none = (
  heard.more ∙ ap (λ (k : ℕ). given ++ take k out) none,
  heard.end ∙ ap (λ (k : ℕ). ended || (k == 0)) none ∙ or-last ended,
)

-- a piece was given
pub heard-piece : {E : Type 0} (given : List ℕ) (ended : Bool) (out now : List ℕ) (met : Bool) (n : ℕ) → IsHeard {E = E} given ended out now met (Ok n)
    → (n ≡ 0 → ⊥) → n ≤ length out → (now ≡ given ++ take n out) × (met ≡ ended) × (take n out ≢ [])
heard-piece given ended out now met n heard some within = (
  heard.more,
  heard.end ∙ ap (λ (b : Bool). ended || b) (no-zero n some) ∙ or-none ended,
  λ (e : take n out ≡ []). some (let l : length (take n out) ≡ 0 = ap length e in omega (arith, l, length-take n out)),
)
