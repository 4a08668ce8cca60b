-- What is written of a path names it.
use Rattle.std.proofs.Common.{◌≡◌, ◌⊎◌, inl, inr, ℕ, ◌+◌, ◌/◌, ◌%◌, ◌<◌, ◌==◌, Bool, true, false, ◌||◌, cond, Some, List, [], ◌∷◌, ◌++◌, length, map, take, get_or, refl, sym, ap, ◌∙◌, subst, arith}
use Rattle.std.specs.Prelude.{Contains}
use Rattle.std.specs.List.{flat_map, list_any, AllByRecursion}
use Rattle.std.proofs.lemmas.List.{append-nil, take_more}
use Rattle.std.proofs.lemmas.List.Concat.{flat_map-append}
use Rattle.std.proofs.lemmas.List.Folds.{list_any_at}
use Rattle.std.proofs.lemmas.Bool.{eqb-true}
use Rattle.swh_fastlex.specs.Path.{Piece, Itself, Letter, Octal, IsPiece, piece_text, piece_byte, letter_byte, IsPath, NamesPath, Spells, IsQuoted, IsPlain}
use Rattle.swh_fastwrite.specs.Quoted.{is_quoted_byte, quoted_byte, quoted_path}

pub quoted_more : (path : List ℕ) (i : ℕ) → i < length path → flat_map quoted_byte (take (i + 1) path) ≡ flat_map quoted_byte (take i path) ++ quoted_byte (get_or path i 0)
quoted_more path i within =
    ap (λ (l : List ℕ). flat_map quoted_byte l) (take_more path i 0 within) ∙ flat_map-append quoted_byte (take i path) (get_or path i 0 ∷ [])
    ∙ ap (λ (l : List ℕ). flat_map quoted_byte (take i path) ++ l) (append-nil (quoted_byte (get_or path i 0)))

-- the piece that a byte is written as, by whether it stands behind a backslash, and else by whether it is quoted at all
abbrev piece_by : Bool → Bool → ℕ → Piece
piece_by true quoted c = Letter c c
piece_by false true c = Octal (c / 8 / 8) (c / 8 % 8) (c % 8)
piece_by false false c = Itself c

abbrev is_escaped : ℕ → Bool
is_escaped c = c == 34 || c == 92

abbrev piece_of : ℕ → Piece
piece_of c = piece_by (is_escaped c) (is_quoted_byte c) c

text_by : (b d : Bool) (c : ℕ) → piece_text (piece_by b d c) ≡ cond b (92 ∷ c ∷ []) (cond d (92 ∷ (48 + c / 8 / 8) ∷ (48 + c / 8 % 8) ∷ (48 + c % 8) ∷ []) (c ∷ []))
text_by true d c = refl
text_by false true c = refl
text_by false false c = refl

byte_by : (b d : Bool) (c : ℕ) → piece_byte (piece_by b d c) ≡ c
byte_by true d c = refl
byte_by false true c = omega arith
byte_by false false c = refl

not_both : true ≡ false → ⊥
not_both e = cc

either : (a b : Bool) → (a || b) ≡ true → (a ≡ true) ⊎ (b ≡ true)
either true b is = inl refl
either false b is = inr is

is_by : (b d : Bool) (c : ℕ) → c < 256 → is_escaped c ≡ b → is_quoted_byte c ≡ d → IsPiece (piece_by b d c)
is_by true d c small escaped quoted =
    elim (either (c == 34) (c == 92) escaped) [
      | inl is ↦ subst (λ (x : ℕ). letter_byte x ≡ Some x) (sym (eqb-true c 34 is)) refl
      | inr is ↦ subst (λ (x : ℕ). letter_byte x ≡ Some x) (sym (eqb-true c 92 is)) refl
    ]
is_by false true c small escaped quoted = (omega arith, omega arith, omega arith)
is_by false false c small escaped quoted = (
  λ e. not_both (sym (ap is_escaped e) ∙ escaped),
  λ e. not_both (sym (ap is_escaped e) ∙ escaped),
  λ e. not_both (sym (ap is_quoted_byte e) ∙ quoted),
)

pieces_text : (path : List ℕ) → flat_map quoted_byte path ≡ flat_map piece_text (map piece_of path)
pieces_text [] = refl
pieces_text (c ∷ path) =
    ap (λ (t : List ℕ). t ++ flat_map quoted_byte path) (sym (text_by (is_escaped c) (is_quoted_byte c) c)) ∙ ap (λ (t : List ℕ). piece_text (piece_of c) ++ t) (pieces_text path)

pieces_bytes : (path : List ℕ) → path ≡ map piece_byte (map piece_of path)
pieces_bytes [] = refl
pieces_bytes (c ∷ path) =
    ap (λ (x : ℕ). x ∷ path) (sym (byte_by (is_escaped c) (is_quoted_byte c) c)) ∙ ap (λ (t : List ℕ). piece_byte (piece_of c) ∷ t) (pieces_bytes path)

pieces_are : (path : List ℕ) → AllByRecursion (λ c. c < 256) path → AllByRecursion IsPiece (map piece_of path)
pieces_are [] small = tt
pieces_are (c ∷ path) (small, rest) = (is_by (is_escaped c) (is_quoted_byte c) c small refl refl, pieces_are path rest)

quoted : (path : List ℕ) → AllByRecursion (λ c. c < 256) path → IsQuoted (34 ∷ (flat_map quoted_byte path ++ 34 ∷ [])) path
quoted path small = record {
  pieces = map piece_of path;
  are = pieces_are path small;
  spelled = ap (λ (t : List ℕ). 34 ∷ (t ++ 34 ∷ [])) (pieces_text path);
  means = pieces_bytes path;
}

no_byte : (path : List ℕ) (c : ℕ) → list_any is_quoted_byte path ≡ false → is_quoted_byte c ≡ true → Contains path c → ⊥
no_byte path c none is (k, within, same) =
    let found = list_any_at is_quoted_byte path k c within (ap is_quoted_byte same ∙ is) in
    let e : true ≡ false = sym found ∙ none in cc

begins : (path rest : List ℕ) → path ≡ 34 ∷ rest → Contains path 34
begins path rest e = subst (λ (l : List ℕ). Contains l 34) (sym e) (0, omega arith, refl)

plain : (path : List ℕ) → list_any is_quoted_byte path ≡ false → IsPlain 10 path path
plain path none = record {
  same = refl;
  no_stop = no_byte path 10 none refl;
  no_quote = λ rest e. no_byte path 34 none refl (begins path rest e);
}

spells_by : (path : List ℕ) (b : Bool) → list_any is_quoted_byte path ≡ b → AllByRecursion (λ c. c < 256) path → Spells 10 (cond b (34 ∷ (flat_map quoted_byte path ++ 34 ∷ [])) path) path
spells_by path true any small = inl (quoted path small)
spells_by path false none small = inr (plain path none)

pub names_again : (path : List ℕ) → AllByRecursion (λ c. c < 256) path → IsPath path → NamesPath (quoted_path path) path
names_again path small is = (is, spells_by path (list_any is_quoted_byte path) refl small)
