-- Lists in strict order that have the same elements are one.
use Rattle.std.proofs.Common.{◌≡◌, ◌⊎◌, inl, inr, List, [], ◌∷◌, Contains, refl, sym, ap, ◌∙◌, subst}
use Rattle.std.specs.List.{AllByRecursion}
use Rattle.swh_dedup.proofs.Elements.{first_or_later, first_is, later_is, none_is, each_is}

module _ {X : Type 0} (Before : X → X → Type 0) where
  -- each comes before all behind it
  abbrev pub IsUp : List X → Type 0
  IsUp [] = Unit {0}
  IsUp (x ∷ xs) = AllByRecursion (Before x) xs × IsUp xs

  module _ (one_way : (x y : X) → Before x y → Before y x → ⊥) where
    same_head : (x y : X) (xs ys : List X) → AllByRecursion (Before x) xs → AllByRecursion (Before y) ys → (y ≡ x) ⊎ Contains ys x → (x ≡ y) ⊎ Contains xs y → x ≡ y
    same_head x y xs ys up vp (inl e) d = sym e
    same_head x y xs ys up vp (inr h) (inl e) = e
    same_head x y xs ys up vp (inr h) (inr k) = absurd (one_way x y (each_is (Before x) xs y up k) (each_is (Before y) ys x vp h))

    -- what is behind the first of both
    behind : (x z : X) (xs ys : List X) → AllByRecursion (Before x) xs → Contains xs z → (x ≡ z) ⊎ Contains ys z → Contains ys z
    behind x z xs ys up c (inl e) = let b : Before x x = subst (Before x) (sym e) (each_is (Before x) xs z up c) in absurd (one_way x x b b)
    behind x z xs ys up c (inr k) = k

    pub one_up : (xs ys : List X) → IsUp xs → IsUp ys → ((z : X) → Contains xs z → Contains ys z) → ((z : X) → Contains ys z → Contains xs z) → xs ≡ ys
    one_up [] [] up vp to from = refl
    one_up [] (y ∷ ys) up vp to from = absurd (none_is y (from y (first_is y ys)))
    one_up (x ∷ xs) [] up vp to from = absurd (none_is x (to x (first_is x xs)))
    one_up (x ∷ xs) (y ∷ ys) up vp to from =
        let e : x ≡ y = same_head x y xs ys up.0 vp.0 (first_or_later y ys x (to x (first_is x xs))) (first_or_later x xs y (from y (first_is y ys))) in
        let vq : AllByRecursion (Before x) ys = subst (λ (h : X). AllByRecursion (Before h) ys) (sym e) vp.0 in
        let there : (z : X) → Contains xs z → Contains ys z = λ z c. behind x z xs ys up.0 c (first_or_later x ys z (subst (λ (h : X). Contains (h ∷ ys) z) (sym e) (to z (later_is x xs z c)))) in
        let back : (z : X) → Contains ys z → Contains xs z = λ z c. behind x z ys xs vq c (first_or_later x xs z (from z (later_is y ys z c))) in
        let tail : xs ≡ ys = one_up xs ys up.1 vp.1 there back in
        ap (λ (h : X). h ∷ xs) e ∙ ap (λ (t : List X). y ∷ t) tail
