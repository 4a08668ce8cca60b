-- Bytes cut in one way.
use Rattle.std.proofs.Common.{◌≡◌, ℕ, ◌<◌, ◌^◌, List, [], ◌∷◌, ◌++◌, length, refl, sym, ap, ◌∙◌, arith}
use Rattle.std.specs.Int.{w32, w64, to_be_bytes, from_be_bytes}
use Rattle.std.proofs.lemmas.Nat.{from_be_bytes-to_be_bytes_4, from_be_bytes-to_be_bytes_8}

-- what stands before and after a number of bytes
pub cut : (a b x y : List ℕ) → length a ≡ length b → a ++ x ≡ b ++ y → (a ≡ b) × (x ≡ y)
cut [] [] x y l e = (refl, e)
cut [] (d ∷ b) x y l e = absurd (omega (arith, l))
cut (c ∷ a) [] x y l e = absurd (omega (arith, l))
cut (c ∷ a) (d ∷ b) x y l e =
    let after : a ++ x ≡ b ++ y = cc in
    let both = cut a b x y (omega (arith, l)) after in
    let fronts = both.0 in (cc, both.1)

pub four_bytes : (n : ℕ) → length (to_be_bytes w32 n) ≡ 4
four_bytes n = refl

pub eight_bytes : (n : ℕ) → length (to_be_bytes w64 n) ≡ 8
eight_bytes n = refl

pub same_four : (m n : ℕ) → m < 2 ^ 32 → n < 2 ^ 32 → to_be_bytes w32 m ≡ to_be_bytes w32 n → m ≡ n
same_four m n hm hn e = sym (from_be_bytes-to_be_bytes_4 m hm) ∙ ap (from_be_bytes w32) e ∙ from_be_bytes-to_be_bytes_4 n hn

pub same_eight : (m n : ℕ) → m < 2 ^ 64 → n < 2 ^ 64 → to_be_bytes w64 m ≡ to_be_bytes w64 n → m ≡ n
same_eight m n hm hn e = sym (from_be_bytes-to_be_bytes_8 m hm) ∙ ap (from_be_bytes w64) e ∙ from_be_bytes-to_be_bytes_8 n hn

-- a number in four bytes, and what is after it
pub cut_four : (m n : ℕ) (x y : List ℕ) → m < 2 ^ 32 → n < 2 ^ 32 → to_be_bytes w32 m ++ x ≡ to_be_bytes w32 n ++ y → (m ≡ n) × (x ≡ y)
cut_four m n x y hm hn e = let both = cut (to_be_bytes w32 m) (to_be_bytes w32 n) x y refl e in (same_four m n hm hn both.0, both.1)

pub cut_eight : (m n : ℕ) (x y : List ℕ) → m < 2 ^ 64 → n < 2 ^ 64 → to_be_bytes w64 m ++ x ≡ to_be_bytes w64 n ++ y → (m ≡ n) × (x ≡ y)
cut_eight m n x y hm hn e = let both = cut (to_be_bytes w64 m) (to_be_bytes w64 n) x y refl e in (same_eight m n hm hn both.0, both.1)

head_of : List ℕ → ℕ
head_of [] = 0
head_of (x ∷ xs) = x

tail_of : List ℕ → List ℕ
tail_of [] = []
tail_of (x ∷ xs) = xs

pub same_head : (a b : ℕ) (x y : List ℕ) → a ∷ x ≡ b ∷ y → a ≡ b
unfolding head_of
same_head a b x y e = ap head_of e

pub same_tail : (a b : ℕ) (x y : List ℕ) → a ∷ x ≡ b ∷ y → x ≡ y
unfolding tail_of
same_tail a b x y e = ap tail_of e
