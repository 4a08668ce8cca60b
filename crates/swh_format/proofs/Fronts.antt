-- What stands at the front of bytes: numbers, and a record's frame.
use Rattle.std.proofs.Common.{◌≡◌, ℕ, zero, suc, ◌+◌, ◌<◌, ◌≤◌, List, [], ◌∷◌, ◌++◌, length, get_or, take, drop, refl, sym, ap, ◌∙◌, arith}
use Rattle.std.specs.Int.{w32, w64, to_be_bytes, from_be_bytes}
use Rattle.std.proofs.lemmas.Nat.{be_bytes_4, be_bytes_8}
use Rattle.std.proofs.lemmas.List.{take-append-drop}
use Rattle.swh_format.specs.Record.{framed}
use Rattle.swh_format.proofs.Unique.{framed_then}

bytes_take : (n : ℕ) (xs : List ℕ) → ((i : ℕ) → get_or xs i 0 < 256) → (i : ℕ) → get_or (take n xs) i 0 < 256
bytes_take zero xs h i = omega arith
bytes_take (suc n) [] h i = omega arith
bytes_take (suc n) (x ∷ xs) h zero = h 0
bytes_take (suc n) (x ∷ xs) h (suc i) = bytes_take n xs (λ j. h (suc j)) i

length-take : (n : ℕ) (xs : List ℕ) → n ≤ length xs → length (take n xs) ≡ n
length-take zero xs h = refl
length-take (suc n) [] h = absurd (omega (arith, h))
length-take (suc n) (x ∷ xs) h = let more = length-take n xs (omega (arith, h)) in omega (arith, more)

pub four_front : (bytes front rest : List ℕ) (n : ℕ) → front ≡ take 4 bytes → rest ≡ drop 4 bytes → length rest + 4 ≡ length bytes → ((i : ℕ) → get_or bytes i 0 < 256) → n ≡ from_be_bytes w32 front → bytes ≡ to_be_bytes w32 n ++ rest
four_front bytes front rest n is_front is_rest size small is =
    let there : to_be_bytes w32 n ≡ take 4 bytes = be_bytes_4 (take 4 bytes) n (length-take 4 bytes (omega (arith, size))) (bytes_take 4 bytes small) (is ∙ ap (from_be_bytes w32) is_front) in
    sym (take-append-drop 4 bytes) ∙ ap (λ (l : List ℕ). l ++ drop 4 bytes) (sym there) ∙ ap (λ (l : List ℕ). to_be_bytes w32 n ++ l) (sym is_rest)

pub eight_front : (bytes front rest : List ℕ) (n : ℕ) → front ≡ take 8 bytes → rest ≡ drop 8 bytes → length rest + 8 ≡ length bytes → ((i : ℕ) → get_or bytes i 0 < 256) → n ≡ from_be_bytes w64 front → bytes ≡ to_be_bytes w64 n ++ rest
eight_front bytes front rest n is_front is_rest size small is =
    let there : to_be_bytes w64 n ≡ take 8 bytes = be_bytes_8 (take 8 bytes) n (length-take 8 bytes (omega (arith, size))) (bytes_take 8 bytes small) (is ∙ ap (from_be_bytes w64) is_front) in
    sym (take-append-drop 8 bytes) ∙ ap (λ (l : List ℕ). l ++ drop 8 bytes) (sym there) ∙ ap (λ (l : List ℕ). to_be_bytes w64 n ++ l) (sym is_rest)

-- a front of some bytes and what is after it
pub front_and_back : (n : ℕ) (bytes front rest : List ℕ) → front ≡ take n bytes → rest ≡ drop n bytes → length rest + n ≡ length bytes → (bytes ≡ front ++ rest) × (length front ≡ n)
front_and_back n bytes front rest is_front is_rest size = (
  sym (take-append-drop n bytes) ∙ ap (λ (l : List ℕ). l ++ drop n bytes) (sym is_front) ∙ ap (λ (l : List ℕ). front ++ l) (sym is_rest),
  ap length is_front ∙ length-take n bytes (omega (arith, size)),
)

-- a record's parts, joined
pub record_joined : (bytes rest more payload last : List ℕ) (kind size : ℕ) → bytes ≡ kind ∷ rest → rest ≡ to_be_bytes w32 size ++ more → more ≡ payload ++ last → length payload ≡ size → bytes ≡ framed kind payload ++ last
record_joined bytes rest more payload last kind size cut_at front behind sized =
    cut_at ∙ ap (λ (l : List ℕ). kind ∷ l) (front ∙ ap (λ (n : ℕ). to_be_bytes w32 n ++ more) (sym sized) ∙ ap (λ (l : List ℕ). to_be_bytes w32 (length payload) ++ l) behind) ∙ sym (framed_then kind payload last)
