-- A list and its last item, and what comes after it in the order of bytes.
use Rattle.std.proofs.Common.{◌≡◌, ℕ, ◌+◌, ◌-◌, ◌<◌, List, [], ◌∷◌, ◌++◌, length, get_or, take, map, sym, ap, ◌∙◌, arith}
use Rattle.std.specs.List.{AllByRecursion}
use Rattle.std.specs.Ordering.{nat_cmp}
use Rattle.std.specs.Cmp.Lexicographic.{slice_cmp}
use Rattle.std.specs.declared.cmp.Ordering.TheVariants.{Less}
use Rattle.std.proofs.lemmas.Cmp.{nat_list_cmp_total}
use Rattle.std.proofs.lemmas.List.{map_push, take_more, take_all}

pub map_end : {X Y : Type 0} (f : X → Y) (xs front : List X) (x : X) → xs ≡ front ++ x ∷ [] → map f xs ≡ map f front ++ f x ∷ []
map_end f xs front x e = ap (map f) e ∙ map_push f front x

-- what a list that has a last item is seen as
pub ends_with_last : {X Y : Type 0} (f : X → Y) (xs : List X) (x : X) → 0 < length xs → x ≡ get_or xs (length xs - 1) x → map f xs ≡ map f (take (length xs - 1) xs) ++ f x ∷ []
ends_with_last f xs x l e =
    let i : ℕ = length xs - 1 in
    let top : i + 1 ≡ length xs = omega arith in
    let more = take_more xs i x (omega arith) in
    map_end f xs (take i xs) x (sym (take_all (i + 1) xs (omega arith)) ∙ more ∙ ap (λ y. take i xs ++ y ∷ []) (sym e))

-- what comes after one comes after all that this one comes after
pub after_through : {X : Type 0} (key : X → List ℕ) (xs : List X) (l x : X) → AllByRecursion (λ y. slice_cmp nat_cmp (key y) (key l) ≡ Less) xs → slice_cmp nat_cmp (key l) (key x) ≡ Less → AllByRecursion (λ y. slice_cmp nat_cmp (key y) (key x) ≡ Less) xs
after_through key [] l x h b = tt
after_through key (y ∷ xs) l x h b = (nat_list_cmp_total.trans (key y) (key l) (key x) h.0 b, after_through key xs l x h.1 b)
