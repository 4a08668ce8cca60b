-- Ids in hexadecimal digits: one id has one text, and a line of a word and an id is cut in one way.
use Rattle.std.proofs.Common.{◌≡◌, ℕ, zero, suc, ◌*◌, List, [], ◌∷◌, ◌++◌, length, Result, Ok, refl, sym, ap, ◌∙◌, arith, append_assoc, codes}
use Rattle.std.specs.Result.{result_unwrap_or}
use Rattle.std.specs.List.{AllByRecursion, flat_map}
use Rattle.hex.specs.Hex.{IsBytes, decode_of, encode_lower, lower_digits}
use Rattle.hex.specs.declared.error.FromHexError.{FromHexError}
use Rattle.hex.proofs.HexLemmas.{decode_of-encode_lower, length-encode_with}
use Rattle.swh_base.specs.Name.{IsByte, IsId}
use Rattle.swh_base.specs.Revision.{id_line, parent_line, BeginsParent}
use Rattle.swh_base.proofs.Splits.{sized_split}

bytes-from_recursion : (xs : List ℕ) → AllByRecursion IsByte xs → IsBytes xs
bytes-from_recursion [] h i = omega arith
bytes-from_recursion (x ∷ xs) h zero = h.0
bytes-from_recursion (x ∷ xs) h (suc i) = bytes-from_recursion xs h.1 i

-- ids of one text are the same
pub hex-injective : (a b : List ℕ) → AllByRecursion IsByte a → AllByRecursion IsByte b → encode_lower a ≡ encode_lower b → a ≡ b
hex-injective a b ha hb e =
    let read_a : decode_of (encode_lower a) ≡ Ok a = decode_of-encode_lower a (bytes-from_recursion a ha) in
    let read_b : decode_of (encode_lower b) ≡ Ok b = decode_of-encode_lower b (bytes-from_recursion b hb) in
    ap (λ (r : Result (List ℕ) FromHexError). result_unwrap_or r []) (sym read_a ∙ ap decode_of e ∙ read_b)

pub length-hex : (a b : List ℕ) → length a ≡ length b → length (encode_lower a) ≡ length (encode_lower b)
length-hex a b e = length-encode_with lower_digits a ∙ ap (λ n. 2 * n) e ∙ sym (length-encode_with lower_digits b)

-- a line and what follows, cut after the word and after the digits
pub line_then : (word id x : List ℕ) → id_line word id ++ x ≡ word ++ (encode_lower id ++ 10 ∷ x)
line_then word id x = append_assoc word (encode_lower id ++ 10 ∷ []) x ∙ ap (λ (t : List ℕ). word ++ t) (append_assoc (encode_lower id) (10 ∷ []) x)

-- what a line says, and what follows it
pub one_line : (word a b x y : List ℕ) → IsId a → IsId b → id_line word a ++ x ≡ id_line word b ++ y → (a ≡ b) × (x ≡ y)
one_line word a b x y ha hb e =
    let cut : word ++ (encode_lower a ++ 10 ∷ x) ≡ word ++ (encode_lower b ++ 10 ∷ y) = sym (line_then word a x) ∙ e ∙ line_then word b y in
    let behind = sized_split word word (encode_lower a ++ 10 ∷ x) (encode_lower b ++ 10 ∷ y) refl cut in
    let both = sized_split (encode_lower a) (encode_lower b) (10 ∷ x) (10 ∷ y) (length-hex a b (ha.0 ∙ sym hb.0)) behind.1 in
    let feeds = both.1 in
    (hex-injective a b ha.1 hb.1 both.0, cc)

pub parents_then : (id : List ℕ) (ids : List (List ℕ)) (x : List ℕ) → flat_map parent_line (id ∷ ids) ++ x ≡ parent_line id ++ (flat_map parent_line ids ++ x)
parents_then id ids x = append_assoc (parent_line id) (flat_map parent_line ids) x

-- Parent lines before what begins none: both are determined.
pub one_parents : (ps qs : List (List ℕ)) (x y : List ℕ) → AllByRecursion IsId ps → AllByRecursion IsId qs → (BeginsParent x → ⊥) → (BeginsParent y → ⊥)
    → flat_map parent_line ps ++ x ≡ flat_map parent_line qs ++ y → (ps ≡ qs) × (x ≡ y)
one_parents [] [] x y hp hq nx ny e = (refl, e)
one_parents [] (q ∷ qs) x y hp hq nx ny e = absurd (nx (record { id = q; more = flat_map parent_line qs ++ y; is_id = hq.0; text = e ∙ parents_then q qs y }))
one_parents (p ∷ ps) [] x y hp hq nx ny e = absurd (ny (record { id = p; more = flat_map parent_line ps ++ x; is_id = hp.0; text = sym e ∙ parents_then p ps x }))
one_parents (p ∷ ps) (q ∷ qs) x y hp hq nx ny e =
    let one = one_line (codes "parent ") p q (flat_map parent_line ps ++ x) (flat_map parent_line qs ++ y) hp.0 hq.0 (sym (parents_then p ps x) ∙ e ∙ parents_then q qs y) in
    let others = one_parents ps qs x y hp.1 hq.1 nx ny one.1 in
    let first = one.0 in
    let after = others.0 in
    (cc, others.1)
