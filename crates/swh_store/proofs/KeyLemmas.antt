-- Keys compared by the number that their first eight bytes are.
use Rattle.std.proofs.Common.{◌≡◌, ℕ, zero, suc, ◌+◌, ◌*◌, ◌<◌, List, [], ◌∷◌, length, get_or, refl, sym, ap, ◌∙◌, arith, w64}
use Rattle.std.proofs.lemmas.Nat.{rows}
use Rattle.std.specs.Int.{from_be_bytes}
use Rattle.std.specs.Ordering.{nat_cmp, ordering_then, ordering_reverse}
use Rattle.std.specs.declared.cmp.Ordering.{Ordering}
use Rattle.std.specs.declared.cmp.Ordering.TheVariants.{Less, Greater}
use Rattle.std.specs.Cmp.{ranks}
use Rattle.std.specs.Cmp.Lexicographic.{nat_list_cmp_total}
use Rattle.std.proofs.lemmas.Cmp.{by_ranked}
use Rattle.swh_store.specs.Entries.{keys_cmp}

-- what the last of so many bytes is worth
abbrev weight : ℕ → ℕ
weight zero = 1
weight (suc n) = weight n * 256

-- the first bytes as the digits of a number
abbrev value : ℕ → List ℕ → ℕ
value zero xs = 0
value (suc n) [] = 0
value (suc n) (x ∷ xs) = x * weight n + value n xs

abbrev pub AreBytes : List ℕ → Type 0
AreBytes xs = (i : ℕ) → get_or xs i 0 < 256

placed : (n w h x y : ℕ) → n ≡ w * h → x < w → y < h → y * w + x < n
placed n w h x y e p q = grind (arith, rows)

positive : (n : ℕ) → 0 < weight n
positive zero = omega arith
positive (suc n) = let p = positive n in omega (arith, p)

below : (n : ℕ) (xs : List ℕ) → AreBytes xs → value n xs < weight n
below zero xs h = omega arith
below (suc n) [] h = positive (suc n)
below (suc n) (x ∷ xs) h = placed (weight (suc n)) (weight n) 256 (value n xs) x refl (below n xs (λ i. h (suc i))) (h 0)

less_value : (n : ℕ) (xs ys : List ℕ) → length xs ≡ length ys → AreBytes xs → AreBytes ys → value n xs < value n ys → keys_cmp xs ys ≡ Less
less_value zero xs ys l h k less = absurd (omega (arith, less))
less_value (suc n) [] [] l h k less = absurd (omega (arith, less))
less_value (suc n) [] (y ∷ ys) l h k less = refl
less_value (suc n) (x ∷ xs) [] l h k less = absurd (omega (arith, less))
less_value (suc n) (x ∷ xs) (y ∷ ys) l h k less =
    by_ranked (x < y) (x ≡ y) (y < x) (nat_cmp x y) (ranks x y)
    (λ is _. ap (λ (o : Ordering). ordering_then o (keys_cmp xs ys)) is)
    (λ is same.
    let first : x * weight n ≡ y * weight n = ap (λ (d : ℕ). d * weight n) same in
    let rest : value n xs < value n ys = omega (arith, less, first) in
    ap (λ (o : Ordering). ordering_then o (keys_cmp xs ys)) is ∙ less_value n xs ys (omega (arith, l)) (λ i. h (suc i)) (λ i. k (suc i)) rest)
    (λ _ above.
    let most = placed (weight n * x) (weight n) x (value n ys) y refl (below n ys (λ i. k (suc i))) above in
    absurd (omega (arith, less, most)))

-- the number of the first eight bytes
eight : (xs : List ℕ) → length xs ≡ 21 → from_be_bytes w64 xs ≡ value 8 xs
eight [] l = absurd (omega (arith, l))
eight (a ∷ []) l = absurd (omega (arith, l))
eight (a ∷ b ∷ []) l = absurd (omega (arith, l))
eight (a ∷ b ∷ c ∷ []) l = absurd (omega (arith, l))
eight (a ∷ b ∷ c ∷ d ∷ []) l = absurd (omega (arith, l))
eight (a ∷ b ∷ c ∷ d ∷ e ∷ []) l = absurd (omega (arith, l))
eight (a ∷ b ∷ c ∷ d ∷ e ∷ f ∷ []) l = absurd (omega (arith, l))
eight (a ∷ b ∷ c ∷ d ∷ e ∷ f ∷ g ∷ []) l = absurd (omega (arith, l))
eight (a ∷ b ∷ c ∷ d ∷ e ∷ f ∷ g ∷ h ∷ r) l = omega arith

-- of two keys the one with the smaller number comes first
pub less_head : (xs ys : List ℕ) → length xs ≡ 21 → length ys ≡ 21 → AreBytes xs → AreBytes ys → from_be_bytes w64 xs < from_be_bytes w64 ys → keys_cmp xs ys ≡ Less
less_head xs ys l m h k less =
    let left = eight xs l in
    let right = eight ys m in
    less_value 8 xs ys (l ∙ sym m) h k (omega (arith, left, right, less))

pub greater_head : (xs ys : List ℕ) → length xs ≡ 21 → length ys ≡ 21 → AreBytes xs → AreBytes ys → from_be_bytes w64 ys < from_be_bytes w64 xs → keys_cmp xs ys ≡ Greater
greater_head xs ys l m h k more =
    nat_list_cmp_total.antisymm xs ys ∙ ap ordering_reverse (less_head ys xs m l k h more)
