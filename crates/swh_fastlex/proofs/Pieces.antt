-- Pieces of a quoted path: a text begins with one at most, and with one list of them up to the quote.
use Rattle.std.proofs.Common.{◌≡◌, ◌≢◌, ℕ, zero, suc, ◌+◌, ◌-◌, ◌*◌, ◌≤◌, inl, inr, Some, None, List, [], ◌∷◌, ◌++◌, length, get_or, drop, map, refl, sym, ap, ◌∙◌, subst, arith, append_assoc, length-append}
use Rattle.std.specs.List.{flat_map, AllByRecursion}
use Rattle.swh_base.proofs.Splits.{first_split}
use Rattle.swh_base.proofs.Elementary.{append_nil}
use Rattle.swh_fastlex.specs.Path.{Piece, Itself, Letter, Octal, piece_text, piece_byte, IsPiece, letter_byte, closed_text, IsPlain, Spells, SpellsPath}
use Rattle.swh_fastlex.specs.Spelling.{BeginsWithPiece, BeginsWithOctal, ReadsPieces}

digit_is_no_letter : (a : ℕ) → a ≤ 3 → letter_byte (48 + a) ≡ None
digit_is_no_letter zero l = refl
digit_is_no_letter (suc zero) l = refl
digit_is_no_letter (suc (suc zero)) l = refl
digit_is_no_letter (suc (suc (suc zero))) l = refl
digit_is_no_letter (suc (suc (suc (suc a)))) l = absurd (omega arith)

digit_or_letter : (a l c : ℕ) → a ≤ 3 → l ≡ 48 + a → letter_byte l ≡ Some c → ⊥
digit_or_letter a l c le e h = let none = digit_is_no_letter a le in let there : letter_byte (48 + a) ≡ Some c = subst (λ (x : ℕ). letter_byte x ≡ Some c) e h in cc

-- no piece begins the text
abbrev pub NoPiece : List ℕ → Type 0
NoPiece text = (piece : Piece) (more : List ℕ) → IsPiece piece → text ≡ piece_text piece ++ more → ⊥

-- a text begins with one piece at most
pub one_piece : (p q : Piece) (x y : List ℕ) → IsPiece p → IsPiece q → piece_text p ++ x ≡ piece_text q ++ y → (p ≡ q) × (x ≡ y)
one_piece (Itself c) (Itself d) x y h k e = (cc, cc)
one_piece (Itself c) (Letter l d) x y h k e = absurd (h.1 (cc))
one_piece (Itself c) (Octal a b d) x y h k e = absurd (h.1 (cc))
one_piece (Letter l c) (Itself d) x y h k e = absurd (k.1 (cc))
one_piece (Letter l c) (Letter m d) x y h k e =
    let letters : l ≡ m = cc in
    let there : letter_byte l ≡ Some d = subst (λ (z : ℕ). letter_byte z ≡ Some d) (sym letters) k in
    let bytes : c ≡ d = cc in (cc, cc)
one_piece (Letter l c) (Octal a b d) x y h k e = absurd (digit_or_letter a l c k.0 (cc) h)
one_piece (Octal a b c) (Itself d) x y h k e = absurd (k.1 (cc))
one_piece (Octal a b c) (Letter l d) x y h k e = absurd (digit_or_letter a l d h.0 (cc) k)
one_piece (Octal a b c) (Octal i j k0) x y h k e =
    let first : 48 + a ≡ 48 + i = cc in
    let second : 48 + b ≡ 48 + j = cc in
    let third : 48 + c ≡ 48 + k0 = cc in
    let sa : a ≡ i = omega arith in
    let sb : b ≡ j = omega arith in
    let sc : c ≡ k0 = omega arith in (cc, cc)

numbers_differ : (m n : ℕ) → m ≡ n → m ≡ 92 → n ≡ 34 → ⊥
numbers_differ m n e f g = absurd (omega arith)

slash_is_no_quote : (x y : List ℕ) → 92 ∷ x ≡ 34 ∷ y → ⊥
slash_is_no_quote x y e = numbers_differ 92 34 (cc) refl refl

-- no piece begins with the quote
pub no_quote_piece : (p : Piece) (x y : List ℕ) → IsPiece p → piece_text p ++ x ≡ 34 ∷ y → ⊥
no_quote_piece (Itself c) x y h e = h.0 (cc)
no_quote_piece (Letter l c) x y h e = slash_is_no_quote (l ∷ x) y e
no_quote_piece (Octal a b c) x y h e = slash_is_no_quote ((48 + a) ∷ (48 + b) ∷ (48 + c) ∷ x) y e

regroup : (p : Piece) (ps : List Piece) (x : List ℕ) → closed_text (p ∷ ps) ++ x ≡ piece_text p ++ (closed_text ps ++ x)
regroup p ps x = ap (λ (t : List ℕ). t ++ x) (append_assoc (piece_text p) (flat_map piece_text ps) (34 ∷ [])) ∙ append_assoc (piece_text p) (closed_text ps) x

-- a text begins with one list of pieces and a quote at most
pub one_quoting : (ps qs : List Piece) (x y : List ℕ) → AllByRecursion IsPiece ps → AllByRecursion IsPiece qs → closed_text ps ++ x ≡ closed_text qs ++ y → (ps ≡ qs) × (x ≡ y)
one_quoting [] [] x y h k e = (refl, cc)
one_quoting [] (q ∷ qs) x y h k e = absurd (no_quote_piece q (closed_text qs ++ y) x k.0 (sym (e ∙ regroup q qs y)))
one_quoting (p ∷ ps) [] x y h k e = absurd (no_quote_piece p (closed_text ps ++ x) y h.0 (sym (regroup p ps x) ∙ e))
one_quoting (p ∷ ps) (q ∷ qs) x y h k e =
    let firsts = one_piece p q (closed_text ps ++ x) (closed_text qs ++ y) h.0 k.0 (sym (regroup p ps x) ∙ e ∙ regroup q qs y) in
    let others = one_quoting ps qs x y h.1 k.1 firsts.1 in
    let a = firsts.0 in let b = others.0 in (cc, others.1)

-- Two lists of pieces begin one text, and no piece follows either: they are the same.
pub same_pieces : (ps qs : List Piece) (x y : List ℕ) → AllByRecursion IsPiece ps → AllByRecursion IsPiece qs → NoPiece x → NoPiece y → flat_map piece_text ps ++ x ≡ flat_map piece_text qs ++ y → (ps ≡ qs) × (x ≡ y)
same_pieces [] [] x y h k nx ny e = (refl, e)
same_pieces [] (q ∷ qs) x y h k nx ny e = absurd (nx q (flat_map piece_text qs ++ y) k.0 (e ∙ append_assoc (piece_text q) (flat_map piece_text qs) y))
same_pieces (p ∷ ps) [] x y h k nx ny e = absurd (ny p (flat_map piece_text ps ++ x) h.0 (sym e ∙ append_assoc (piece_text p) (flat_map piece_text ps) x))
same_pieces (p ∷ ps) (q ∷ qs) x y h k nx ny e =
    let firsts = one_piece p q (flat_map piece_text ps ++ x) (flat_map piece_text qs ++ y) h.0 k.0 (sym (append_assoc (piece_text p) (flat_map piece_text ps) x) ∙ e ∙ append_assoc (piece_text q) (flat_map piece_text qs) y) in
    let others = same_pieces ps qs x y h.1 k.1 nx ny firsts.1 in
    let a = firsts.0 in let b = others.0 in (cc, others.1)

pub dropped : (a b : List ℕ) (n : ℕ) → n ≡ length a → drop n (a ++ b) ≡ b
dropped [] b zero e = refl
dropped [] b (suc n) e = absurd (omega arith)
dropped (c ∷ a) b zero e = absurd (omega arith)
dropped (c ∷ a) b (suc n) e = dropped a b n (omega arith)

-- a text that a piece and more make begins with the piece
pub piece_front : (p : Piece) (text rest : List ℕ) (byte n : ℕ) → IsPiece p → text ≡ piece_text p ++ rest → byte ≡ piece_byte p → n ≡ length (piece_text p) → BeginsWithPiece text byte n
piece_front p text rest byte n is cut spells count = record {
  piece = p;
  is = is;
  spells = spells;
  count = count;
  cut = cut ∙ ap (λ (t : List ℕ). piece_text p ++ t) (sym (ap (drop n) cut ∙ dropped (piece_text p) rest n count));
}

three : (text : List ℕ) → 3 ≤ length text → text ≡ get_or text 0 0 ∷ get_or text 1 0 ∷ get_or text 2 0 ∷ drop 3 text
three [] l = absurd (omega arith)
three (a ∷ []) l = absurd (omega arith)
three (a ∷ b ∷ []) l = absurd (omega arith)
three (a ∷ b ∷ c ∷ text) l = refl

digits_are : (text rest : List ℕ) (a b c : ℕ) → text ≡ a ∷ b ∷ c ∷ rest → 48 ≤ a → 48 ≤ b → 48 ≤ c → text ≡ (48 + (a - 48)) ∷ (48 + (b - 48)) ∷ (48 + (c - 48)) ∷ rest
digits_are text rest a b c e la lb lc =
    let fa : 48 + (a - 48) ≡ a = omega arith in
    let fb : 48 + (b - 48) ≡ b = omega arith in
    let fc : 48 + (c - 48) ≡ c = omega arith in cc

-- three octal digits, read from the front of a text
pub octal_front : (text : List ℕ) → 3 ≤ length text → 48 ≤ get_or text 0 0 → get_or text 0 0 ≤ 51 → 48 ≤ get_or text 1 0 → get_or text 1 0 ≤ 55 → 48 ≤ get_or text 2 0 → get_or text 2 0 ≤ 55 → BeginsWithOctal text ((get_or text 0 0 - 48) * 64 + (get_or text 1 0 - 48) * 8 + (get_or text 2 0 - 48))
octal_front text l a0 a1 b0 b1 c0 c1 = record {
  high = get_or text 0 0 - 48;
  middle = get_or text 1 0 - 48;
  low = get_or text 2 0 - 48;
  rest = drop 3 text;
  high_small = omega arith;
  middle_small = omega arith;
  low_small = omega arith;
  spells = refl;
  cut = digits_are text (drop 3 text) _ _ _ (three text l) a0 b0 c0;
}

octal_cut : (text after : List ℕ) (first byte : ℕ) → text ≡ first ∷ after → first ≡ 92 → (h : BeginsWithOctal after byte) → text ≡ piece_text (Octal h.high h.middle h.low) ++ h.rest
octal_cut text after first byte e f h = let g = h.cut in cc

-- a backslash and three octal digits are a piece
pub octal_piece : (text after : List ℕ) (first byte : ℕ) → text ≡ first ∷ after → first ≡ 92 → BeginsWithOctal after byte → BeginsWithPiece text byte 4
octal_piece text after first byte e f h = piece_front (Octal h.high h.middle h.low) text h.rest byte 4 (h.high_small, h.middle_small, h.low_small) (octal_cut text after first byte e f h) h.spells refl

all_more : (ps : List Piece) (p : Piece) → AllByRecursion IsPiece ps → IsPiece p → AllByRecursion IsPiece (ps ++ p ∷ [])
all_more [] p h k = (k, tt)
all_more (q ∷ qs) p h k = (h.0, all_more qs p h.1 k)

flat_map_more_piece : (ps : List Piece) (p : Piece) → flat_map piece_text (ps ++ p ∷ []) ≡ flat_map piece_text ps ++ piece_text p
flat_map_more_piece [] p = append_nil (piece_text p)
flat_map_more_piece (q ∷ qs) p = ap (λ (t : List ℕ). piece_text q ++ t) (flat_map_more_piece qs p) ∙ sym (append_assoc (piece_text q) (flat_map piece_text qs) (piece_text p))

map_more : (ps : List Piece) (p : Piece) → map piece_byte (ps ++ p ∷ []) ≡ map piece_byte ps ++ piece_byte p ∷ []
map_more [] p = refl
map_more (q ∷ qs) p = ap (λ (t : List ℕ). piece_byte q ∷ t) (map_more qs p)

-- one more piece
pub reads_more : (text rest path : List ℕ) (byte n : ℕ) (after longer : List ℕ) → ReadsPieces text rest path → BeginsWithPiece rest byte n → after ≡ drop n rest → longer ≡ path ++ byte ∷ [] → ReadsPieces text after longer
reads_more text rest path byte n after longer r b cut push = record {
  pieces = r.pieces ++ b.piece ∷ [];
  are = all_more r.pieces b.piece r.are b.is;
  cut = r.cut ∙ ap (λ (t : List ℕ). flat_map piece_text r.pieces ++ t) (b.cut ∙ ap (λ (t : List ℕ). piece_text b.piece ++ t) (sym cut)) ∙ sym (append_assoc (flat_map piece_text r.pieces) (piece_text b.piece) after) ∙ ap (λ (t : List ℕ). t ++ after) (sym (flat_map_more_piece r.pieces b.piece));
  means = push ∙ ap (λ (t : List ℕ). t ++ byte ∷ []) r.means ∙ ap (λ (c : ℕ). map piece_byte r.pieces ++ c ∷ []) b.spells ∙ sym (map_more r.pieces b.piece);
}

pub left_over : (a b : List ℕ) (n : ℕ) (text : List ℕ) → text ≡ a ++ b → n ≡ length text - length b → drop n text ≡ b
left_over a b n text e c = ap (drop n) e ∙ dropped a b n (omega (arith, c, ap length e, length-append a b))

pub plain_no_quote : (stop : ℕ) (spelling path rest quoted : List ℕ) → stop ≢ 34 → IsPlain stop spelling path → spelling ++ stop ∷ rest ≡ 34 ∷ quoted → ⊥
plain_no_quote stop [] path rest quoted n p e = n (cc)
plain_no_quote stop (c ∷ spelling) path rest quoted n p e = let first : c ≡ 34 = cc in p.no_quote spelling (ap (λ (x : ℕ). x ∷ spelling) first)

-- two spellings, plain or quoted, each with the byte `stop` after it
pub one_form : (stop : ℕ) (s t p q x y : List ℕ) → stop ≢ 34 → s ++ stop ∷ x ≡ t ++ stop ∷ y → Spells stop s p → Spells stop t q → (p ≡ q) × (x ≡ y)
one_form stop s t p q x y n e (inl a) (inl b) =
    let both : 34 ∷ (closed_text a.pieces ++ stop ∷ x) ≡ 34 ∷ (closed_text b.pieces ++ stop ∷ y) = sym (ap (λ (z : List ℕ). z ++ stop ∷ x) a.spelled) ∙ e ∙ ap (λ (z : List ℕ). z ++ stop ∷ y) b.spelled in
    let same = one_quoting a.pieces b.pieces (stop ∷ x) (stop ∷ y) a.are b.are (cc) in
    let rests = same.1 in
    (a.means ∙ ap (map piece_byte) same.0 ∙ sym b.means, cc)
one_form stop s t p q x y n e (inl a) (inr b) = absurd (plain_no_quote stop t q y (closed_text a.pieces ++ stop ∷ x) n b (sym e ∙ ap (λ (z : List ℕ). z ++ stop ∷ x) a.spelled))
one_form stop s t p q x y n e (inr a) (inl b) = absurd (plain_no_quote stop s p x (closed_text b.pieces ++ stop ∷ y) n a (e ∙ ap (λ (z : List ℕ). z ++ stop ∷ y) b.spelled))
one_form stop s t p q x y n e (inr a) (inr b) =
    let cut = first_split stop s t x y a.no_stop b.no_stop e in
    (a.same ∙ cut.0 ∙ sym b.same, cut.1)

-- a text spells one path at most
pub one_spelling : (stop : ℕ) (text p q x y : List ℕ) → stop ≢ 34 → SpellsPath stop text p x → SpellsPath stop text q y → (p ≡ q) × (x ≡ y)
one_spelling stop text p q x y n h k = one_form stop h.spelling k.spelling p q x y n (sym h.cut ∙ k.cut) h.form k.form
