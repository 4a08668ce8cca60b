-- Numbers of decimal digits.
use Rattle.std.proofs.Common.{◌≡◌, ℕ, zero, suc, ◌+◌, ◌-◌, ◌*◌, ◌^◌, ◌<◌, ◌≤◌, true, List, [], ◌∷◌, length, get_or, take, drop, sym, ap, ◌∙◌, subst, arith, add-one}
use Rattle.std.specs.List.{AllPass}
use Rattle.std.proofs.Math.Nat.{pow-suc, pow-le-pow_right}
use Rattle.std.proofs.Math.Seq.{drop-cons}
use Rattle.std.proofs.Math.ListN.{drop_of_length-le}
use Rattle.std.proofs.lemmas.List.{take_more, take_all}
use Rattle.std.proofs.lemmas.List.Elements.{All-append}
use Rattle.swh_base.specs.Text.{is_digit, value_from, IsNumber}

pub number_small : (n i size : ℕ) → n < 10 ^ i → i < size → size ≤ 18 → n < 10 ^ 17
number_small n i size s l h =
    let low : 0 < 10 = omega arith in
    let p : 10 ^ i ≤ 10 ^ 17 = pow-le-pow_right {n = 10} low {i = i} {j = 17} (omega arith) in
    omega (arith, s, p)

pub number_more : (n i d : ℕ) → n < 10 ^ i → 48 ≤ d → d ≤ 57 → n * 10 + (d - 48) < 10 ^ (i + 1)
number_more n i d s low high =
    let e : 10 ^ (i + 1) ≡ 10 ^ i * 10 = ap (λ (k : ℕ). 10 ^ k) (add-one i) ∙ pow-suc 10 i in
    omega (arith, e, s)

pub value_more : (n i : ℕ) (xs : List ℕ) (v : ℕ) → i < length xs → v ≡ value_from n (drop i xs) → v ≡ value_from (n * 10 + (get_or xs i 0 - 48)) (drop (i + 1) xs)
value_more n i xs v l e = e ∙ ap (value_from n) (drop-cons xs i 0 l) ∙ ap (λ (k : ℕ). value_from (n * 10 + (get_or xs i 0 - 48)) (drop k xs)) (sym (add-one i))

digit_test : (d : ℕ) → 48 ≤ d → d ≤ 57 → is_digit d ≡ true
digit_test d low high = grind arith

one_digit : (d : ℕ) → is_digit d ≡ true → AllPass is_digit (d ∷ [])
one_digit d h zero e l = h
one_digit d h (suc k) e l = absurd (omega arith)

pub digits_more : (xs : List ℕ) (i : ℕ) → i < length xs → AllPass is_digit (take i xs) → 48 ≤ get_or xs i 0 → get_or xs i 0 ≤ 57 → AllPass is_digit (take (i + 1) xs)
digits_more xs i l h low high = subst (λ (t : List ℕ). AllPass is_digit t) (sym (take_more xs i 0 l)) (All-append (λ x. is_digit x ≡ true) (take i xs) (get_or xs i 0 ∷ []) h (one_digit (get_or xs i 0) (digit_test (get_or xs i 0) low high)))

pub number_whole : (xs : List ℕ) (n i : ℕ) → 1 ≤ length xs → length xs ≤ 18 → length xs ≤ i → value_from 0 xs ≡ value_from n (drop i xs) → AllPass is_digit (take i xs) → IsNumber xs n
number_whole xs n i some short over v d = record { some = some; short = short; digits = subst (λ (t : List ℕ). AllPass is_digit t) (take_all i xs over) d; value = sym (v ∙ ap (value_from n) (drop_all xs i over)) }
  where
    drop_all : (xs : List ℕ) (i : ℕ) → length xs ≤ i → drop i xs ≡ []
    drop_all xs i l = drop_of_length-le xs l
