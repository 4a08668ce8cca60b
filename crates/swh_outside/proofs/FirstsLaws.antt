-- Lists whose first entry that passes a test counts.
use Rattle.std.proofs.Common.{◌≡◌, ℕ, zero, suc, ◌-◌, ◌<◌, Bool, true, false, cond, List, [], ◌∷◌, ◌++◌, length, length-append, get_or, set, refl, sym, ◌∙◌, ap, arith}
use Rattle.std.specs.List.{position_or_len}
use Rattle.std.proofs.lemmas.List.{get_or_append_left, get_or-append_right}
use Rattle.std.proofs.lemmas.List.Sums.{position_or_len_is, fails_before_first, passes_at_first}
use Rattle.swh_outside.specs.Firsts.{first_or}

-- the first entry that passes stands at i
pub record IsFirst {X : Type 0} (p : X → Bool) (xs : List X) (i : ℕ) (z : X) : Type 0 where
  pub inside : i < length xs
  pub here : p (get_or xs i z) ≡ true
  pub before : (k : ℕ) → k < i → p (get_or xs k z) ≡ false

rest : {X : Type 0} (p : X → Bool) (x : X) (xs : List X) (i : ℕ) (z : X) → IsFirst p (x ∷ xs) (suc i) z → IsFirst p xs i z
rest p x xs i z first = record { inside = omega (arith, first.inside); here = first.here; before = λ k h. first.before (suc k) (omega (arith, h)) }

pub first_of : {X : Type 0} (p : X → Bool) (xs : List X) (i : ℕ) (z : X) → i ≡ position_or_len p xs → i < length xs → IsFirst p xs i z
first_of p xs i z is inside = record {
  inside = inside;
  here = ap (λ (k : ℕ). p (get_or xs k z)) is ∙ passes_at_first p xs z (omega (arith, is, inside));
  before = λ k h. fails_before_first p xs k z (omega (arith, is, h));
}

-- what it says
pub first_or-at : {X V : Type 0} (p : X → Bool) (f : X → V) (d : V) (xs : List X) (i : ℕ) (z : X) → IsFirst p xs i z → first_or p f d xs ≡ f (get_or xs i z)
first_or-at p f d [] i z first = absurd (omega (arith, first.inside))
first_or-at {X} {V} p f d (x ∷ xs) zero z first = ap (λ (b : Bool). cond b (f x) (first_or p f d xs)) first.here
first_or-at {X} {V} p f d (x ∷ xs) (suc i) z first =
    ap (λ (b : Bool). cond b (f x) (first_or p f d xs)) (first.before 0 (omega arith)) ∙ first_or-at p f d xs i z (rest p x xs i z first)

-- with another entry in its place that passes too
pub first_or-set_hit : {X V : Type 0} (p : X → Bool) (f : X → V) (d : V) (xs : List X) (i : ℕ) (z y : X) → IsFirst p xs i z → p y ≡ true → first_or p f d (set xs i y) ≡ f y
first_or-set_hit p f d [] i z y first passes = absurd (omega (arith, first.inside))
first_or-set_hit {X} {V} p f d (x ∷ xs) zero z y first passes = ap (λ (b : Bool). cond b (f y) (first_or p f d xs)) passes
first_or-set_hit {X} {V} p f d (x ∷ xs) (suc i) z y first passes =
    ap (λ (b : Bool). cond b (f x) (first_or p f d (set xs i y))) (first.before 0 (omega arith)) ∙ first_or-set_hit p f d xs i z y (rest p x xs i z first) passes

-- an entry that does not pass, with another in its place that does not either
pub first_or-set_miss : {X V : Type 0} (p : X → Bool) (f : X → V) (d : V) (xs : List X) (i : ℕ) (z y : X) → i < length xs → p (get_or xs i z) ≡ false → p y ≡ false → first_or p f d (set xs i y) ≡ first_or p f d xs
first_or-set_miss p f d [] i z y inside fails fails_too = absurd (omega (arith, inside))
first_or-set_miss {X} {V} p f d (x ∷ xs) zero z y inside fails fails_too =
    ap (λ (b : Bool). cond b (f y) (first_or p f d xs)) fails_too ∙ ap (λ (b : Bool). cond b (f x) (first_or p f d xs)) (sym fails)
first_or-set_miss {X} {V} p f d (x ∷ xs) (suc i) z y inside fails fails_too =
    ap (λ (v : V). cond (p x) (f x) v) (first_or-set_miss p f d xs i z y (omega (arith, inside)) fails fails_too)

-- one entry more that says what none says
pub first_or-push : {X V : Type 0} (p : X → Bool) (f : X → V) (d : V) (xs : List X) (y : X) → f y ≡ d → first_or p f d (xs ++ y ∷ []) ≡ first_or p f d xs
first_or-push {X} {V} p f d [] y is = at (p y)
  where
    at : (b : Bool) → cond b (f y) d ≡ d
    at true = is
    at false = refl
first_or-push {X} {V} p f d (x ∷ xs) y is = ap (λ (v : V). cond (p x) (f x) v) (first_or-push p f d xs y is)

-- where none passes
pub first_or-none : {X V : Type 0} (p : X → Bool) (f : X → V) (d : V) (xs : List X) (z : X) → ((k : ℕ) → k < length xs → p (get_or xs k z) ≡ false) → first_or p f d xs ≡ d
first_or-none p f d [] z fails = refl
first_or-none {X} {V} p f d (x ∷ xs) z fails =
    ap (λ (b : Bool). cond b (f x) (first_or p f d xs)) (fails 0 (omega arith)) ∙ first_or-none p f d xs z (λ k h. fails (suc k) (omega (arith, h)))

pub none_passes : {X : Type 0} (p : X → Bool) (xs : List X) → ((z : X) (k : ℕ) → k < length xs → p (get_or xs k z) ≡ false) → length xs ≡ position_or_len p xs
none_passes p [] fails = refl
none_passes p (x ∷ xs) fails = sym (position_or_len_is p (x ∷ xs) (length (x ∷ xs)) x (omega arith) (fails x) (λ lt. absurd (omega (arith, lt))))

-- the new entry is found where none was
pub found_last : {X : Type 0} (p : X → Bool) (xs : List X) (y : X) → position_or_len p xs ≡ length xs → p y ≡ true → position_or_len p (xs ++ y ∷ []) ≡ length xs
found_last p xs y absent here =
    position_or_len_is p (xs ++ y ∷ []) (length xs) y (omega (arith, length-append xs (y ∷ [])))
    (λ k h. ap p (get_or_append_left xs (y ∷ []) y k h) ∙ fails_before_first p xs k y (omega (arith, absent, h)))
    (λ lt. ap p (get_or-append_right xs (y ∷ []) (length xs) (length xs) y refl (omega arith) ∙ (let none_before : length xs - length xs ≡ 0 = omega arith in ap (λ (k : ℕ). get_or (y ∷ []) k y) none_before)) ∙ here)
