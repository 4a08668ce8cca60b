-- Children gathered one by one.
use Rattle.std.proofs.Common.{◌≡◌, ℕ, ◌+◌, ◌<◌, List, [], ◌∷◌, ◌++◌, length, get_or, take, map, Option, Some, None, refl, sym, ap, ◌∙◌}
use Rattle.std.specs.List.{filter_map, cons_option}
use Rattle.std.specs.Prelude.{option_to_list}
use Rattle.std.proofs.lemmas.List.{take_more}

-- the children of what a list is seen as
pub filter_map-map : {X Y Z : Type 0} (f : Y → Option Z) (g : X → Y) (xs : List X) → filter_map (λ x. f (g x)) xs ≡ filter_map f (map g xs)
filter_map-map f g [] = refl
filter_map-map f g (x ∷ xs) = ap (cons_option (f (g x))) (filter_map-map f g xs)

cons_option-append : {X : Type 0} (o : Option X) (xs ys : List X) → cons_option o (xs ++ ys) ≡ cons_option o xs ++ ys
cons_option-append None xs ys = refl
cons_option-append (Some x) xs ys = refl

filter_map-push : {X Y : Type 0} (f : X → Option Y) (xs : List X) (x : X) → filter_map f (xs ++ x ∷ []) ≡ filter_map f xs ++ cons_option (f x) []
filter_map-push f [] x = refl
filter_map-push f (y ∷ xs) x = ap (cons_option (f y)) (filter_map-push f xs x) ∙ cons_option-append (f y) (filter_map f xs) (cons_option (f x) [])

listed : {X : Type 0} (o : Option X) → cons_option o [] ≡ option_to_list o
listed None = refl
listed (Some x) = refl

-- with one more
pub filter_map-more : {X Y : Type 0} (f : X → Option Y) (xs : List X) (i : ℕ) (d : X) (old new : List Y) → i < length xs → old ≡ filter_map f (take i xs) → new ≡ old ++ option_to_list (f (get_or xs i d)) → new ≡ filter_map f (take (i + 1) xs)
filter_map-more f xs i d old new l so_far more =
    let last = get_or xs i d in
    more ∙ ap (λ ys. ys ++ option_to_list (f last)) so_far ∙ ap (λ ys. filter_map f (take i xs) ++ ys) (sym (listed (f last))) ∙ sym (ap (filter_map f) (take_more xs i d l) ∙ filter_map-push f (take i xs) last)
