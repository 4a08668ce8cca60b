-- Elements of lists.
use Rattle.std.proofs.Common.{◌≡◌, ◌⊎◌, inl, inr, zero, suc, List, [], ◌∷◌, ◌++◌, map, Contains, refl, subst, arith}
use Rattle.std.specs.List.{AllByRecursion}

pub first_or_later : {X : Type 0} (y : X) (ys : List X) (x : X) → Contains (y ∷ ys) x → (y ≡ x) ⊎ Contains ys x
first_or_later y ys x (zero, l, e) = inl e
first_or_later y ys x (suc k, l, e) = inr (k, omega arith, e)

pub first_is : {X : Type 0} (x : X) (xs : List X) → Contains (x ∷ xs) x
first_is x xs = (0, omega arith, refl)

pub later_is : {X : Type 0} (y : X) (ys : List X) (x : X) → Contains ys x → Contains (y ∷ ys) x
later_is y ys x (k, l, e) = (suc k, omega arith, e)

pub none_is : {X : Type 0} (x : X) → Contains [] x → ⊥
none_is x (k, l, e) = absurd (omega arith)

pub contains_map : {X Y : Type 0} (f : X → Y) (xs : List X) (x : X) → Contains xs x → Contains (map f xs) (f x)
contains_map f [] x h = absurd (none_is x h)
contains_map {X} {Y} f (y ∷ ys) x h = by_place (first_or_later y ys x h) (contains_map f ys x)
  where
    by_place : (y ≡ x) ⊎ Contains ys x → (Contains ys x → Contains (map f ys) (f x)) → Contains (map f (y ∷ ys)) (f x)
    by_place (inl e) k = subst (λ (z : X). Contains (map f (y ∷ ys)) (f z)) e (first_is (f y) (map f ys))
    by_place (inr c) k = later_is (f y) (map f ys) (f x) (k c)

pub from_map : {X Y : Type 0} (f : X → Y) (xs : List X) (y : Y) → Contains (map f xs) y → (x : X) × Contains xs x × (f x ≡ y)
from_map f [] y h = absurd (none_is y h)
from_map {X} {Y} f (x ∷ xs) y h = by_place (first_or_later (f x) (map f xs) y h) (from_map f xs y)
  where
    by_place : (f x ≡ y) ⊎ Contains (map f xs) y → (Contains (map f xs) y → (z : X) × Contains xs z × (f z ≡ y)) → (z : X) × Contains (x ∷ xs) z × (f z ≡ y)
    by_place (inl e) k = (x, first_is x xs, e)
    by_place (inr c) k = let r = k c in (r.0, later_is x xs r.0 r.1, r.2)

pub each_is : {X : Type 0} (P : X → Type 0) (xs : List X) (x : X) → AllByRecursion P xs → Contains xs x → P x
each_is P [] x h c = absurd (none_is x c)
each_is {X} P (y ∷ ys) x h c = by_place (first_or_later y ys x c) (each_is P ys x h.1)
  where
    by_place : (y ≡ x) ⊎ Contains ys x → (Contains ys x → P x) → P x
    by_place (inl e) k = subst P e h.0
    by_place (inr d) k = k d

pub all_from : {X : Type 0} (P : X → Type 0) (xs : List X) → ((x : X) → Contains xs x → P x) → AllByRecursion P xs
all_from P [] h = tt
all_from P (x ∷ xs) h = (h x (first_is x xs), all_from P xs (λ y c. h y (later_is x xs y c)))

pub all_push : {X : Type 0} (P : X → Type 0) (xs : List X) (x : X) → AllByRecursion P xs → P x → AllByRecursion P (xs ++ x ∷ [])
all_push P [] x h p = (p, tt)
all_push P (y ∷ ys) x h p = (h.0, all_push P ys x h.1 p)
