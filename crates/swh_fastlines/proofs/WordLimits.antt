-- Limits of the words in a line: one word at most has a ref behind it, and a long path wants a long line.
use Rattle.std.proofs.Common.{◌≡◌, ℕ, zero, suc, ◌<◌, ◌≤◌, ◌==◌, if◌then◌else◌, inl, inr, List, [], ◌∷◌, ◌++◌, length, length-append, map, Contains, refl, sym, ap, ◌∙◌, subst, arith, codes}
use Rattle.std.specs.List.{flat_map}
use Rattle.swh_base.specs.Limits.{path_limit, ref_limit, tag_limit}
use Rattle.swh_base.specs.declared.visit.Which.{Which}
use Rattle.swh_base.specs.declared.visit.Which.TheVariants.{Body, Objects, Bytes, Store, Ledger, Stream, Line, Path, Ref, Refs}
use Rattle.swh_fastlex.specs.Path.{Piece, piece_text, piece_byte, RunsPath, PassesPath}
use Rattle.swh_fastlex.specs.Path.Piece.{Itself, Letter, Octal}
use Rattle.swh_fastgrammar.specs.declared.command.Dataref.TheVariants.{Mark, Inline, Hex}
use Rattle.swh_fastgrammar.specs.Word.{IsRefRun}
use Rattle.swh_fastgrammar.proofs.Rows.{same_tail}
use Rattle.swh_fastlines.specs.Limit.{ref_words, PassesRefs, PassesSet, PassesPair, PassesPaths, PassesCount, PassesWords}
use Rattle.swh_fastlines.proofs.RefRuns.{passes, passes_not}

-- what holds of each word and its limit
by_word : (P : List ℕ → ℕ → Type 0) → P (codes "commit ") ref_limit → P (codes "reset ") ref_limit → P (codes "from ") ref_limit → P (codes "merge ") ref_limit → P (codes "tag ") tag_limit
    → (word : List ℕ) (limit : ℕ) → Contains ref_words (word, limit) → P word limit
by_word P a b c d e word limit (zero, l, same) = subst (λ (x : List ℕ × ℕ). P x.0 x.1) same a
by_word P a b c d e word limit (suc zero, l, same) = subst (λ (x : List ℕ × ℕ). P x.0 x.1) same b
by_word P a b c d e word limit (suc (suc zero), l, same) = subst (λ (x : List ℕ × ℕ). P x.0 x.1) same c
by_word P a b c d e word limit (suc (suc (suc zero)), l, same) = subst (λ (x : List ℕ × ℕ). P x.0 x.1) same d
by_word P a b c d e word limit (suc (suc (suc (suc zero))), l, same) = subst (λ (x : List ℕ × ℕ). P x.0 x.1) same e
by_word P a b c d e word limit (suc (suc (suc (suc (suc n)))), l, same) = absurd (omega (arith, l))

-- no word has a lower limit than that of tags
pub least_limit : (word : List ℕ) (limit : ℕ) → Contains ref_words (word, limit) → tag_limit ≤ limit
least_limit = by_word (λ word limit. tag_limit ≤ limit) (omega arith) (omega arith) (omega arith) (omega arith) (omega arith)

-- the words and their limits, by the first byte of a line
abbrev first : List ℕ → ℕ
first [] = 0
first (c ∷ text) = c

abbrev word_by : ℕ → List ℕ
word_by c = if c == 99 then codes "commit " else if c == 114 then codes "reset " else if c == 102 then codes "from " else if c == 109 then codes "merge " else codes "tag "

abbrev limit_by : ℕ → ℕ
limit_by c = if c == 116 then tag_limit else ref_limit

known : (word : List ℕ) (limit : ℕ) → Contains ref_words (word, limit) → (text : List ℕ) → (word ≡ word_by (first (word ++ text))) × (limit ≡ limit_by (first (word ++ text)))
known word limit h text = by_word (λ w l. (w ≡ word_by (first (w ++ text))) × (l ≡ limit_by (first (w ++ text)))) (refl, refl) (refl, refl) (refl, refl) (refl, refl) (refl, refl) word limit h

-- One word at most has a ref behind it, and one limit.
pub one_place : (line word text other more : List ℕ) (limit bound : ℕ) → Contains ref_words (word, limit) → Contains ref_words (other, bound) → line ≡ word ++ text → line ≡ other ++ more → (text ≡ more) × (limit ≡ bound)
one_place line word text other more limit bound h k e f =
    let a = known word limit h text in
    let b = known other bound k more in
    let heads : first (word ++ text) ≡ first (other ++ more) = ap first (sym e ∙ f) in
    let words : word ≡ other = a.0 ∙ ap word_by heads ∙ sym b.0 in
    (same_tail other text more (ap (λ (w : List ℕ). w ++ text) (sym words) ∙ sym e ∙ f), a.1 ∙ ap limit_by heads ∙ sym b.1)

pub ref_passes : (line word text : List ℕ) (limit n : ℕ) → Contains ref_words (word, limit) → line ≡ word ++ text → IsRefRun text n → limit < n → PassesRefs line n
ref_passes line word text limit n h e run above = record { word = word; limit = limit; text = text; one = h; spelled = e; passes = passes text n limit run above }

pub ref_passes_not : (line word text : List ℕ) (limit n : ℕ) → Contains ref_words (word, limit) → line ≡ word ++ text → IsRefRun text n → n ≤ limit → (number : ℕ) → PassesRefs line number → ⊥
ref_passes_not line word text limit n h e run within number p =
    let same = one_place line word text p.word p.text limit p.limit h p.one e p.spelled in
    let bounds = same.1 in
    passes_not p.text n p.limit (subst (λ (t : List ℕ). IsRefRun t n) same.0 run) (omega (arith, within, bounds)) number p.passes

piece_size : (p : Piece) → 1 ≤ length (piece_text p)
piece_size (Itself c) = omega arith
piece_size (Letter letter c) = omega arith
piece_size (Octal a b c) = omega arith

pieces_size : (ps : List Piece) → length (map piece_byte ps) ≤ length (flat_map piece_text ps)
pieces_size [] = omega arith
pieces_size (p ∷ ps) =
    let one = piece_size p in
    let more = pieces_size ps in
    omega (arith, one, more, length-append (piece_text p) (flat_map piece_text ps))

-- A path is no longer than what spells it.
run_size : (stop : ℕ) (text path rest : List ℕ) → RunsPath stop text path rest → length path ≤ length text
run_size stop text path rest (inl r) =
    let size = pieces_size r.pieces in
    omega (arith, size, ap length r.means, ap length r.cut, length-append (flat_map piece_text r.pieces) rest)
run_size stop text path rest (inr r) = omega (arith, ap length r.cut, length-append path rest)

path_size : (stop : ℕ) (text : List ℕ) (number : ℕ) → PassesPath stop text number → path_limit < length text
path_size stop text number p =
    let size = run_size stop text p.path p.rest p.runs in
    let count = p.count in
    let above = p.above in
    omega (arith, size, count, above)

set_size : (text : List ℕ) (number : ℕ) → PassesSet text number → path_limit < length text
set_size text number (mode, Mark m, rest, b, p) =
    let size = path_size 10 rest number p in
    let spelled : length text ≡ length (b.0 ++ (codes " :" ++ (b.1 ++ 32 ∷ rest))) = ap length b.2 in
    omega (arith, size, spelled, length-append b.0 (codes " :" ++ (b.1 ++ 32 ∷ rest)), length-append b.1 (32 ∷ rest))
set_size text number (mode, Inline bytes, rest, b, p) =
    let size = path_size 10 rest number p in
    let spelled : length text ≡ length (b.0 ++ (codes " inline " ++ rest)) = ap length b.1 in
    omega (arith, size, spelled, length-append b.0 (codes " inline " ++ rest))
set_size text number (mode, Hex id, rest, b, p) =
    let size = path_size 10 rest number p in
    let spelled : length text ≡ length (codes "160000 " ++ (b.0 ++ 32 ∷ rest)) = ap length b.1 in
    omega (arith, size, spelled, length-append b.0 (32 ∷ rest))

pair_size : (text : List ℕ) (number : ℕ) → PassesPair text number → path_limit < length text
pair_size text number (inl p) = path_size 32 text number p
pair_size text number (inr (source, rest, before, p)) =
    let size = path_size 10 rest number p in
    let spelled = ap length before.1.cut in
    omega (arith, size, spelled, length-append before.1.spelling (32 ∷ rest))

-- A path that is too long stands in a line that is longer.
pub paths_size : (line : List ℕ) (number : ℕ) → PassesPaths line number → path_limit < length line
paths_size line number (inl (text, e, p)) = let size = path_size 10 text number p in omega (arith, size, ap length e)
paths_size line number (inr (inl (text, e, p))) = let size = set_size text number p in omega (arith, size, ap length e)
paths_size line number (inr (inr (text, inl e, p))) = let size = pair_size text number p in omega (arith, size, ap length e)
paths_size line number (inr (inr (text, inr e, p))) = let size = pair_size text number p in omega (arith, size, ap length e)

pub no_words : (line : List ℕ) → ((number : ℕ) → PassesCount line number → ⊥) → ((number : ℕ) → PassesRefs line number → ⊥) → ((number : ℕ) → PassesPaths line number → ⊥) → (which : Which) (number : ℕ) → PassesWords line which number → ⊥
no_words line count refs paths Body number p = count number p
no_words line count refs paths Objects number p = p
no_words line count refs paths Bytes number p = p
no_words line count refs paths Store number p = p
no_words line count refs paths Ledger number p = p
no_words line count refs paths Stream number p = p
no_words line count refs paths Line number p = p
no_words line count refs paths Path number p = paths number p
no_words line count refs paths Ref number p = refs number p
no_words line count refs paths Refs number p = p
