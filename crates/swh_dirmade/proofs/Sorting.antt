-- Lists that are sorted by a key.
use Rattle.std.proofs.Common.{◌≡◌, ◌+◌, ◌<◌, Bool, List, [], ◌∷◌, length, map, get_or, refl, ap, ◌∙◌, arith}
use Rattle.std.specs.List.Sorted.{IsSortedBy}
use Rattle.std.proofs.lemmas.List.{get_or-map, length-map}

-- a list that is sorted by what a function gives, and the list of what it gives
pub sorted_map : {X Y : Type 0} (f : X → Y) (lt : Y → Y → Bool) (xs : List X) → IsSortedBy (λ x y. lt (f x) (f y)) xs → IsSortedBy lt (map f xs)
sorted_map f lt [] up = λ k d low high. absurd (omega (arith, high))
sorted_map f lt (x ∷ xs) up = λ k d low high.
    let all = x ∷ xs in
    let n : length (map f all) ≡ length all = length-map all f in
    let next : k + 1 < length all = omega (arith, high, n) in
    let here : k < length all = omega (arith, next) in
    let a : get_or (map f all) (k + 1) d ≡ f (get_or all (k + 1) x) = get_or-map f all (k + 1) x d next in
    let b : get_or (map f all) k d ≡ f (get_or all k x) = get_or-map f all k x d here in
    ap (λ y. lt y (get_or (map f all) k d)) a ∙ ap (λ y. lt (f (get_or all (k + 1) x)) y) b ∙ up k x low next

pub map_map : {X Y Z : Type 0} (g : Y → Z) (f : X → Y) (xs : List X) → map g (map f xs) ≡ map (λ x. g (f x)) xs
map_map g f [] = refl
map_map g f (x ∷ xs) = ap (λ zs. g (f x) ∷ zs) (map_map g f xs)
