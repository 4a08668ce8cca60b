-- Ids and their digits: forty digits are those of one id, and an id's digits are digits.
use Rattle.std.proofs.Common.{◌≡◌, ℕ, zero, suc, ◌+◌, ◌*◌, ◌/◌, ◌%◌, ◌<◌, Bool, true, ◌&&◌, inl, inr, List, [], ◌∷◌, length, slice_index, refl, sym, ap, ◌∙◌, arith}
use Rattle.std.proofs.Math.ListN.{get_or-eq_default}
use Rattle.std.specs.List.{AllByRecursion, AllPass}
use Rattle.std.proofs.lemmas.Bool.{and_parts, cases_lt}
use Rattle.std.proofs.lemmas.List.Elements.{All-nil, All-cons, All-head, All-tail}
use Rattle.hex.specs.Hex.{encode_with, encode_lower, lower_digits}
use Rattle.hex.proofs.HexLemmas.{length-encode_with}
use Rattle.swh_base.specs.Name.{is_lower_hex_digit, IsIdText, IsByte, IsId}
use Rattle.swh_base.proofs.IdText.{lower_reads}

abbrev Lower : ℕ → Type 0
Lower c = is_lower_hex_digit c ≡ true

-- the digit of each value is one
abbrev digits_below : ℕ → Bool
digits_below zero = true
digits_below (suc n) = is_lower_hex_digit (slice_index lower_digits n) && digits_below n

digit_at : (n v : ℕ) → digits_below n ≡ true → v < n → Lower (slice_index lower_digits v)
digit_at zero v h lt = absurd (omega arith)
digit_at (suc n) v h lt =
    let parts = and_parts (is_lower_hex_digit (slice_index lower_digits n)) (digits_below n) h in
    elim (cases_lt v n) [
      | inl below ↦ digit_at n v parts.1 below
      | inr top ↦ let e : v ≡ n = omega arith in rw e parts.0
    ]

two : (a b : ℕ) (xs : List ℕ) → Lower a → Lower b → AllPass is_lower_hex_digit xs → AllPass is_lower_hex_digit (a ∷ b ∷ xs)
two a b xs p q h = All-cons Lower a (b ∷ xs) p (All-cons Lower b xs q h)

-- the first two and the others
record Two (a b : ℕ) (xs : List ℕ) : Type 0 where
  first : Lower a
  second : Lower b
  others : AllPass is_lower_hex_digit xs

parts : (a b : ℕ) (xs : List ℕ) → AllPass is_lower_hex_digit (a ∷ b ∷ xs) → Two a b xs
parts a b xs h =
    let behind = All-tail Lower a (b ∷ xs) h in
    record { first = All-head Lower a (b ∷ xs) h; second = All-head Lower b xs behind; others = All-tail Lower b xs behind }

-- an id's digits are digits
pub Lower-encode_lower : (id : List ℕ) → AllByRecursion IsByte id → AllPass is_lower_hex_digit (encode_lower id)
unfolding encode_with
Lower-encode_lower [] h = All-nil Lower
Lower-encode_lower (b ∷ id) h =
    let small = h.0 in
    two (slice_index lower_digits (b / 16)) (slice_index lower_digits (b % 16)) (encode_lower id) (digit_at 16 (b / 16) refl (omega (arith, small))) (digit_at 16 (b % 16) refl (omega arith)) (Lower-encode_lower id h.1)

-- what is written as digits are bytes
small_from : (b : ℕ) → Lower (slice_index lower_digits (b / 16)) → b < 256
small_from b h =
    elim (cases_lt (b / 16) 16) [
      | inl below ↦ omega arith
      | inr above ↦ let none : slice_index lower_digits (b / 16) ≡ 0 = get_or-eq_default lower_digits 0 above in let zero_is : Lower 0 = rw none at h in absurd cc
    ]

bytes_from : (id : List ℕ) → AllPass is_lower_hex_digit (encode_lower id) → AllByRecursion IsByte id
unfolding encode_with
bytes_from [] h = tt
bytes_from (b ∷ id) h =
    let digits = parts (slice_index lower_digits (b / 16)) (slice_index lower_digits (b % 16)) (encode_lower id) h in
    (small_from b digits.first, bytes_from id digits.others)

pub IsId-from_text : (text id : List ℕ) → IsIdText text → text ≡ encode_lower id → IsId id
IsId-from_text text id h e =
    let digits : AllPass is_lower_hex_digit (encode_lower id) = rw e at h.1 in
    let size = h.0 in
    (omega (arith, size, ap length e, length-encode_with lower_digits id), bytes_from id digits)

-- an id and its digits
pub record Spells (text : List ℕ) : Type 0 where
  pub id : List ℕ
  pub same : text ≡ encode_lower id

spelled : (n : ℕ) (text : List ℕ) → length text ≡ 2 * n → AllPass is_lower_hex_digit text → Spells text
unfolding encode_with
spelled zero [] e h = record { id = []; same = refl }
spelled (suc n) [] e h = absurd (omega arith)
spelled zero (a ∷ text) e h = absurd (omega arith)
spelled (suc n) (a ∷ []) e h = absurd (omega arith)
spelled (suc n) (a ∷ b ∷ text) e h =
    let digits = parts a b text h in
    let high = lower_reads a digits.first in
    let low = lower_reads b digits.second in
    let after = spelled n text (omega arith) digits.others in
    let byte : ℕ = high.value * 16 + low.value in
    let hs = high.small in
    let ls = low.small in
    let first : byte / 16 ≡ high.value = omega arith in
    let second : byte % 16 ≡ low.value = omega arith in
    let ea : a ≡ slice_index lower_digits (byte / 16) = sym (ap (slice_index lower_digits) first ∙ high.back) in
    let eb : b ≡ slice_index lower_digits (byte % 16) = sym (ap (slice_index lower_digits) second ∙ low.back) in
    record {
      id = byte ∷ after.id;
      same = ap (λ (x : ℕ). x ∷ b ∷ text) ea ∙ ap (λ (x : ℕ). slice_index lower_digits (byte / 16) ∷ x ∷ text) eb ∙ ap (λ (x : List ℕ). slice_index lower_digits (byte / 16) ∷ slice_index lower_digits (byte % 16) ∷ x) after.same;
    }

-- forty digits are those of an id
pub spelled_id : (text : List ℕ) → IsIdText text → Spells text
spelled_id text h = spelled 20 text h.0 h.1

-- the text of an id is forty lower-case digits
pub IsIdText-encode : (id : List ℕ) → IsId id → IsIdText (encode_lower id)
IsIdText-encode id h = let len = h.0 in (length-encode_with lower_digits id ∙ omega (arith, len), Lower-encode_lower id h.1)
