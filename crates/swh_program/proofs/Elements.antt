-- What lists have that are made of other lists.
use Rattle.std.proofs.Common.{◌≡◌, ℕ, zero, suc, ◌<◌, List, [], ◌∷◌, length, get_or, map, Contains, ap, refl, sym, subst, arith}
use Rattle.std.specs.List.{AllByRecursion, flat_map}
use Rattle.std.proofs.lemmas.List.Elements.{Contains-append_left, Contains-append_right}

pub contains_first : {X : Type 0} (x : X) (xs : List X) → Contains (x ∷ xs) x
contains_first x xs = (0, omega arith, refl)

pub contains_more : {X : Type 0} (y : X) (xs : List X) (x : X) → Contains xs x → Contains (y ∷ xs) x
contains_more y xs x (k, less, is) = (suc k, omega (arith, less), is)

-- what an element is made to is among what all are made to
pub map_contains : {X Y : Type 0} (f : X → Y) (xs : List X) (x : X) → Contains xs x → Contains (map f xs) (f x)
map_contains {X} {Y} f xs x h = at xs h.0 h.1 h.2
  where
    at : (ys : List X) (k : ℕ) → k < length ys → get_or ys k x ≡ x → Contains (map f ys) (f x)
    at [] k less h = absurd (omega (arith, less))
    at (y ∷ ys) zero less h = (0, omega arith, ap f h)
    at (y ∷ ys) (suc k) less h = contains_more (f y) (map f ys) (f x) (at ys k (omega (arith, less)) h)

-- what one part has they all have together
pub flat_contains : {X Y : Type 0} (f : X → List Y) (xs : List X) (x : X) (y : Y) → Contains xs x → Contains (f x) y → Contains (flat_map f xs) y
flat_contains {X} {Y} f xs x y h part = at xs h.0 h.1 h.2
  where
    at : (zs : List X) (k : ℕ) → k < length zs → get_or zs k x ≡ x → Contains (flat_map f zs) y
    at [] k less e = absurd (omega (arith, less))
    at (z ∷ zs) zero less e = Contains-append_left (f z) (flat_map f zs) y (subst (λ (w : X). Contains (f w) y) (sym e) part)
    at (z ∷ zs) (suc k) less e = Contains-append_right (f z) (flat_map f zs) y (at zs k (omega (arith, less)) e)

-- each is among all
pub each_among : {X : Type 0} (xs : List X) → AllByRecursion (Contains xs) xs
each_among {X} xs = behind xs xs (λ x h. h)
  where
    behind : (all ys : List X) → ((x : X) → Contains ys x → Contains all x) → AllByRecursion (Contains all) ys
    behind all [] more = tt
    behind all (y ∷ ys) more = (more y (contains_first y ys), behind all ys (λ x h. more x (contains_more y ys x h)))
