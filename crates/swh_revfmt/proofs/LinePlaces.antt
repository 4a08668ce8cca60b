-- How far bytes go that some line of a word and an id begins with.
use Rattle.std.proofs.Common.{◌≡◌, ℕ, ◌+◌, ◌-◌, ◌<◌, ◌≤◌, true, inl, inr, List, [], ◌∷◌, ◌++◌, length, get_or, take, drop, replicate, refl, sym, ap, ◌∙◌, arith, append_assoc, length-append}
use Rattle.std.proofs.Math.ListN.{get_or-append, length-replicate}
use Rattle.std.proofs.Math.Seq.{take-append_seam, take-append-add}
use Rattle.std.proofs.lemmas.Bool.{cases_lt}
use Rattle.std.proofs.lemmas.List.{get_or-take, get_or-append-add, take-append-drop, take-append-le, length-take-le, take_all}
use Rattle.std.proofs.lemmas.List.Elements.{All-append, All-replicate}
use Rattle.hex.specs.Hex.{encode_lower, lower_digits}
use Rattle.hex.proofs.HexLemmas.{length-encode_with}
use Rattle.swh_base.specs.Name.{is_lower_hex_digit, IsIdText, IsId}
use Rattle.swh_base.specs.Revision.{id_line}
use Rattle.swh_base.proofs.HexLines.{line_then}
use Rattle.swh_revfmt.specs.Reading.{NotLine, IsCommonFront, IsIdDigitsFront, IsLinePlace}
use Rattle.swh_base.proofs.Ids.{Lower-encode_lower, IsId-from_text, spelled_id}

-- a byte of a front is that of the text that goes on from it
pub front_at : (bytes more text : List ℕ) (m k : ℕ) → k < m → m ≤ length bytes → take m bytes ++ more ≡ text → get_or bytes k 0 ≡ get_or text k 0
front_at bytes more text m k lt within e =
    let in_front : k < length (take m bytes) = omega (arith, length-take-le m bytes within) in
    sym (get_or-take m bytes k 0 lt) ∙ sym (get_or-append (take m bytes) more 0 k in_front) ∙ ap (λ (t : List ℕ). get_or t k 0) e

-- a text that the front goes on as, and that is no longer, stands at the front
pub prefix_from : (bytes more text rest : List ℕ) (m : ℕ) → m ≤ length bytes → take m bytes ++ more ≡ text ++ rest → length text ≤ m → take (length text) bytes ≡ text
prefix_from bytes more text rest m within e short =
    let size : ℕ = length text in
    let room : size ≤ length (take m bytes) = omega (arith, length-take-le m bytes within) in
    ap (take size) (sym (take-append-drop m bytes)) ∙ take-append-le size (take m bytes) (drop m bytes) room ∙ sym (take-append-le size (take m bytes) more room) ∙ ap (take size) e ∙ take-append_seam text rest

-- the bytes of a line
pub length-digits : (id : List ℕ) → IsId id → length (encode_lower id) ≡ 40
length-digits id h = let size = h.0 in omega (arith, length-encode_with lower_digits id, size)

pub length-line : (word id : List ℕ) → IsId id → length (id_line word id) ≡ length word + 41
length-line word id h = omega (arith, length-append word (encode_lower id ++ 10 ∷ []), length-append (encode_lower id) (10 ∷ []), length-digits id h)

in_word : (word id x : List ℕ) (k : ℕ) → k < length word → get_or (id_line word id ++ x) k 0 ≡ get_or word k 0
in_word word id x k lt = ap (λ (t : List ℕ). get_or t k 0) (line_then word id x) ∙ get_or-append word (encode_lower id ++ 10 ∷ x) 0 k lt

in_digits : (word id x : List ℕ) (d : ℕ) → IsId id → d < 40 → is_lower_hex_digit (get_or (id_line word id ++ x) (length word + d) 0) ≡ true
in_digits word id x d h lt =
    let size = length-digits id h in
    let there : d < length (encode_lower id) = omega arith in
    ap (λ (t : List ℕ). is_lower_hex_digit (get_or t (length word + d) 0)) (line_then word id x)
    ∙ ap is_lower_hex_digit (get_or-append-add word (encode_lower id ++ 10 ∷ x) d 0 ∙ get_or-append (encode_lower id) (10 ∷ x) 0 d there)
    ∙ Lower-encode_lower id h.1 d 0 there

abbrev zero_id : List ℕ
zero_id = replicate 20 0

IsId-zero_id : IsId zero_id
IsId-zero_id = (refl, search (arith))

-- the bytes break inside the word
pub place_in_word : (word bytes : List ℕ) (n : ℕ) → IsCommonFront word bytes n → n < length word → IsLinePlace word bytes n
place_in_word word bytes n c lt = record {
  in_bytes = c.in_bytes;
  id = zero_id;
  more = drop n word ++ (encode_lower zero_id ++ 10 ∷ []);
  is_id = IsId-zero_id;
  begins = sym (append_assoc (take n bytes) (drop n word) (encode_lower zero_id ++ 10 ∷ [])) ∙ ap (λ (t : List ℕ). t ++ drop n word ++ (encode_lower zero_id ++ 10 ∷ [])) c.same ∙ ap (λ (t : List ℕ). t ++ (encode_lower zero_id ++ 10 ∷ [])) (take-append-drop n word);
  longest = λ m other others rest more within is e. c.stops lt (omega arith) (front_at bytes others (id_line word other ++ rest) m n more within e ∙ in_word word other rest n lt);
}

-- the bytes after the whole word
pub behind_word : (word bytes : List ℕ) (n : ℕ) → IsCommonFront word bytes n → length word ≤ n → bytes ≡ word ++ drop n bytes
behind_word word bytes n c le =
    let size : n ≡ length word = let most = c.in_line in omega arith in
    sym (take-append-drop n bytes) ∙ ap (λ (t : List ℕ). t ++ drop n bytes) (c.same ∙ take_all n word (omega arith))

-- forty digits of which the first stand there
some_digits : (digits : List ℕ) (d : ℕ) → IsIdDigitsFront digits d → IsIdText (take d digits ++ replicate (40 - d) 48)
some_digits digits d f =
    let few = f.few in
    (omega (arith, length-append (take d digits) (replicate (40 - d) 48), length-take-le d digits f.in_bytes, length-replicate {A = ℕ} (40 - d) 48), All-append (λ c. is_lower_hex_digit c ≡ true) (take d digits) (replicate (40 - d) 48) f.digits (All-replicate (λ c. is_lower_hex_digit c ≡ true) (40 - d) 48 refl))

-- the bytes break after the word
pub place_in_digits : (word digits : List ℕ) (d : ℕ) → IsIdDigitsFront digits d → NotLine word (word ++ digits) → IsLinePlace word (word ++ digits) (length word + d)
place_in_digits word digits d f never =
    let zeros : List ℕ = replicate (40 - d) 48 in
    let text = some_digits digits d f in
    let spells = spelled_id (take d digits ++ zeros) text in
    let few = f.few in
    let inside = f.in_bytes in
    record {
      in_bytes = omega (arith, length-append word digits);
      id = spells.id;
      more = zeros ++ 10 ∷ [];
      is_id = IsId-from_text (take d digits ++ zeros) spells.id text spells.same;
      begins =
          ap (λ (t : List ℕ). t ++ (zeros ++ 10 ∷ [])) (take-append-add word digits d) ∙ append_assoc word (take d digits) (zeros ++ 10 ∷ [])
          ∙ ap (λ (t : List ℕ). word ++ t) (sym (append_assoc (take d digits) zeros (10 ∷ [])) ∙ ap (λ (t : List ℕ). t ++ 10 ∷ []) spells.same);
      longest = λ m other others rest more within is e.
          elim (cases_lt d 40) [
            | inl short ↦
                let there : d < length digits = omega (arith, length-append word digits) in
                let lower : is_lower_hex_digit (get_or digits d 0) ≡ true =
                ap is_lower_hex_digit (sym (get_or-append-add word digits d 0) ∙ front_at (word ++ digits) others (id_line word other ++ rest) m (length word + d) more within e) ∙ in_digits word other rest d is short in
                let stops = f.stops short there in
                absurd cc
            | inr all ↦
                let line = prefix_from (word ++ digits) others (id_line word other) rest m within e (omega (arith, length-line word other is)) in
                never other (drop (length (id_line word other)) (word ++ digits)) is (sym (take-append-drop (length (id_line word other)) (word ++ digits)) ∙ ap (λ (t : List ℕ). t ++ drop (length (id_line word other)) (word ++ digits)) line)
          ];
    }
