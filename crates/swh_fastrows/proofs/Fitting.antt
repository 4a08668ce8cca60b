-- What comes first in a text and passes no limit: a line, the beginning of one, and data.
use Rattle.std.proofs.Common.{◌≡◌, ◌≢◌, ℕ, suc, ◌+◌, ◌<◌, ◌≤◌, inl, inr, false, List, [], ◌∷◌, ◌++◌, length, length-append, Contains, refl, sym, ap, ◌∙◌, subst, arith, append_assoc, codes}
use Rattle.std.specs.List.{AllByRecursion}
use Rattle.swh_base.proofs.Splits.{first_split}
use Rattle.swh_base.specs.Limits.{body_limit, line_limit}
use Rattle.swh_base.specs.Text.{IsNumber}
use Rattle.swh_base.specs.declared.visit.Which.{Which}
use Rattle.swh_base.specs.declared.visit.Which.TheVariants.{Body, Objects, Bytes, Store, Ledger, Stream, Line, Path, Ref, Refs}
use Rattle.swh_fastlex.specs.Delimited.{IsOther, IsShortLine, lines_text, AreLines}
use Rattle.swh_fastlex.specs.Line.{IsLine}
use Rattle.swh_fastgrammar.specs.Row.{Row, row_text, Opens, IsRow, is_comment}
use Rattle.swh_fastgrammar.proofs.Rows.{same_tail, no_angle, one_row}
use Rattle.swh_fastlines.specs.Limit.{PassesWords}
use Rattle.swh_fastrows.specs.declared.row_source.TheConstants.{STREAM_LIMIT}
use Rattle.swh_fastrows.specs.Within.{FirstLine, PassesStream, IsLong, PassesWord, OpensLines, ManyBytes, LongInside, IsCut, RowEnds, DataOver, LineFits, DataFits}

has_first : (c : ℕ) (t : List ℕ) → c ≡ 10 → Contains (c ∷ t) 10
has_first c t e = (0, omega arith, e)

has_more : (c : ℕ) (t : List ℕ) → Contains t 10 → Contains (c ∷ t) 10
has_more c t h = let l = h.1 in (suc h.0, omega (arith, l), h.2)

pub in_middle : (a x : List ℕ) → Contains (a ++ 10 ∷ x) 10
in_middle [] x = has_first 10 x refl
in_middle (c ∷ a) x = has_more c (a ++ 10 ∷ x) (in_middle a x)

abbrev tail : List ℕ → List ℕ
tail [] = []
tail (c ∷ t) = t

abbrev head : List ℕ → ℕ
head [] = 0
head (c ∷ t) = c

-- bytes without an LF, in front of a text that begins with a line, are no longer than the line
front_size : (front line rest x : List ℕ) → (Contains front 10 → ⊥) → line ++ 10 ∷ rest ≡ front ++ x → length front ≤ length line
front_size [] line rest x n e = omega arith
front_size (c ∷ front) [] rest x n e = absurd (n (has_first c front (sym (ap head e))))
front_size (c ∷ front) (d ∷ line) rest x n e = let size = front_size front line rest x (λ h. n (has_more c front h)) (ap tail e) in omega (arith, size)

-- a line in front of it is the line
line_size : (front line rest x : List ℕ) → IsLine front → (Contains line 10 → ⊥) → line ++ 10 ∷ rest ≡ front ++ x → length front ≡ length line + 1
line_size front line rest x l n e =
    let whole : line ++ 10 ∷ rest ≡ l.front ++ 10 ∷ x = e ∙ ap (λ (t : List ℕ). t ++ x) l.text ∙ append_assoc l.front (10 ∷ []) x in
    let same = (first_split 10 line l.front rest x n l.no_feed whole).0 in
    let size = ap length same in
    omega (arith, size, ap length l.text, length-append l.front (10 ∷ []))

pub one_line : (text l m : List ℕ) → FirstLine text l → FirstLine text m → l ≡ m
one_line text l m f g = (first_split 10 l m f.rest g.rest f.one_line g.one_line (sym f.spelled ∙ g.spelled)).0

-- no word of a line that counts passes a limit
abbrev pub WordsFit : List ℕ → Type 0
WordsFit line = is_comment line ≡ false → (which : Which) (number : ℕ) → PassesWords line which number → ⊥

no_word : (text line : List ℕ) (which : Which) (number : ℕ) → FirstLine text line → WordsFit line → PassesWord text which number → ⊥
no_word text line which number f words p =
    let same : p.line ≡ line = one_line text p.line line p.first f in
    words (subst (λ (t : List ℕ). is_comment t ≡ false) same p.counts) which number (subst (λ (t : List ℕ). PassesWords t which number) same p.passes)

-- a line within the limits
pub line_fits : (at : ℕ) (line rest : List ℕ) → (Contains line 10 → ⊥) → at + (length line + 1) ≤ STREAM_LIMIT → length line < line_limit → WordsFit line → LineFits at (line ++ 10 ∷ rest)
line_fits at line rest n within short words = fits
  where
    first : FirstLine (line ++ 10 ∷ rest) line
    first = record { rest = rest; spelled = refl; one_line = n }

    over : (number : ℕ) → PassesStream at (line ++ 10 ∷ rest) number → ⊥
    over number p =
        let above = p.over in
        elim p.stretch [
          | inl l ↦ let size = line_size p.front line rest p.rest l n p.cut in absurd (omega (arith, above, size, within))
          | inr k ↦ let size = front_size p.front line rest p.rest k p.cut in absurd (omega (arith, above, size, within))
        ]

    long : IsLong (line ++ 10 ∷ rest) → ⊥
    long p = let size = front_size p.front line rest p.rest p.no_feed p.cut in let many = p.long in omega (arith, size, many, short)

    fits : LineFits at (line ++ 10 ∷ rest)
    fits Body number p = no_word (line ++ 10 ∷ rest) line Body number first words p
    fits Objects number p = p
    fits Bytes number p = p
    fits Store number p = p
    fits Ledger number p = p
    fits Stream number p = over number p
    fits Line number p = long p.1
    fits Path number p = no_word (line ++ 10 ∷ rest) line Path number first words p
    fits Ref number p = no_word (line ++ 10 ∷ rest) line Ref number first words p
    fits Refs number p = p

no_first : (text line : List ℕ) → (Contains text 10 → ⊥) → FirstLine text line → ⊥
no_first text line n f = n (subst (λ (t : List ℕ). Contains t 10) (sym f.spelled) (in_middle line f.rest))

some_bytes : (text : List ℕ) → text ≢ [] → 0 < length text
some_bytes [] n = absurd (n refl)
some_bytes (c ∷ text) n = omega arith

-- the beginning of a line, within the limits
pub front_fits : (at : ℕ) (text : List ℕ) → (Contains text 10 → ⊥) → at + length text ≤ STREAM_LIMIT → length text ≤ line_limit → LineFits at text
front_fits at text n within short = fits
  where
    over : (number : ℕ) → PassesStream at text number → ⊥
    over number p = let above = p.over in let size = ap length p.cut in omega (arith, above, size, within, length-append p.front p.rest)

    long : IsLong text → ⊥
    long p = let many = p.long in let size = ap length p.cut in let more = some_bytes p.rest p.more in omega (arith, many, size, short, more, length-append p.front p.rest)

    fits : LineFits at text
    fits Body number p = no_first text p.line n p.first
    fits Objects number p = p
    fits Bytes number p = p
    fits Store number p = p
    fits Ledger number p = p
    fits Stream number p = over number p
    fits Line number p = long p.1
    fits Path number p = no_first text p.line n p.first
    fits Ref number p = no_first text p.line n p.first
    fits Refs number p = p

-- each limit that data pass is passed by data that a next line opens
by_opening : (at : ℕ) (text : List ℕ) → ((line : List ℕ) → FirstLine text line → Opens line → ⊥) → DataFits at text
by_opening at text none Body number p = let o = p.opens in none (codes "data <<" ++ o.word) o.first o.opens
by_opening at text none Objects number p = p
by_opening at text none Bytes number p = p
by_opening at text none Store number p = p
by_opening at text none Ledger number p = p
by_opening at text none Stream number p = none p.line p.first p.opens
by_opening at text none Line number p = let o = p.opens in none (codes "data <<" ++ o.word) o.first o.opens
by_opening at text none Path number p = p
by_opening at text none Ref number p = p
by_opening at text none Refs number p = p

-- a line that opens no data
pub closed_fits : (at : ℕ) (text line : List ℕ) → FirstLine text line → (Opens line → ⊥) → DataFits at text
closed_fits at text line f closed = by_opening at text (λ other g o. closed (subst Opens (one_line text other line g f) o))

-- no line
pub endless_fits : (at : ℕ) (text : List ℕ) → (Contains text 10 → ⊥) → DataFits at text
endless_fits at text n = by_opening at text (λ line f o. no_first text line n f)

-- what the next row ends after
pub row_end : (text : List ℕ) (row : Row) (next : List ℕ) → text ≡ row_text row ++ next → IsRow row next → (size : ℕ) → RowEnds text size → size ≡ length (row_text row)
row_end text row next e h size (inl r) = r.4 ∙ ap (λ (q : Row). length (row_text q)) (one_row r.0 row r.1 next r.3 h (sym r.2 ∙ e)).0
row_end text row next e h size (inr c) = absurd (c.0 row next e h)

pub cut_end : (text : List ℕ) → IsCut text → (size : ℕ) → RowEnds text size → size ≡ length text
cut_end text c size (inl r) = absurd (c r.0 r.1 r.2 r.3)
cut_end text c size (inr d) = d.1

-- where the next row ends, and that it is within the limit of a stream
abbrev pub EndsWithin : ℕ → List ℕ → Type 0
EndsWithin at text = (size : ℕ) → RowEnds text size → at + size ≤ STREAM_LIMIT

no_over : (at : ℕ) (text : List ℕ) (number : ℕ) → EndsWithin at text → DataOver at text number → ⊥
no_over at text number w p = let within = w p.size p.ends in let above = p.over in omega (arith, within, above)

-- data whose bytes are counted
pub counted_fits : (at : ℕ) (text digits : List ℕ) (n : ℕ) → FirstLine text (codes "data " ++ digits) → IsNumber digits n → EndsWithin at text → DataFits at text
counted_fits at text digits n f number within = fits
  where
    no_lines : (bytes rest : List ℕ) → OpensLines text bytes rest → ⊥
    no_lines bytes rest o = no_angle digits (60 ∷ o.word) n number (same_tail (codes "data ") digits (codes "<<" ++ o.word) (one_line text (codes "data " ++ digits) (codes "data <<" ++ o.word) f o.first))

    fits : DataFits at text
    fits Body number p = no_lines p.bytes p.rest p.opens
    fits Objects number p = p
    fits Bytes number p = p
    fits Store number p = p
    fits Ledger number p = p
    fits Stream number p = no_over at text number within p
    fits Line number p = no_lines p.bytes p.rest p.opens
    fits Path number p = p
    fits Ref number p = p
    fits Refs number p = p

-- what follows lines and does not go on with one more, within the limit of lines where more follows it
pub record Closes (word end : List ℕ) : Type 0 where
  pub other : (line rest : List ℕ) → IsOther word line → end ≡ line ++ 10 ∷ rest → ⊥
  pub short : (front rest : List ℕ) → (Contains front 10 → ⊥) → rest ≢ [] → end ≡ front ++ rest → length front < line_limit

-- some of the lines, and what follows them
record Among (lines some : List (List ℕ)) (end rest : List ℕ) : Type 0 where
  pub more : List (List ℕ)
  pub cut : rest ≡ lines_text more ++ end
  pub fit : AllByRecursion IsShortLine more
  pub size : length (lines_text some) ≤ length (lines_text lines)

among : (word : List ℕ) (ls ms : List (List ℕ)) (end rest : List ℕ) → AllByRecursion (IsOther word) ls → AllByRecursion IsShortLine ls → AllByRecursion (IsOther word) ms → Closes word end → lines_text ls ++ end ≡ lines_text ms ++ rest → Among ls ms end rest
among word ls [] end rest h s k c e = record { more = ls; cut = sym e; fit = s; size = omega arith }
among word [] (m ∷ ms) end rest h s k c e = absurd (c.other m (lines_text ms ++ rest) k.0 (e ∙ append_assoc m (10 ∷ lines_text ms) rest))
among word (l ∷ ls) (m ∷ ms) end rest h s k c e =
    let cut = first_split 10 l m (lines_text ls ++ end) (lines_text ms ++ rest) h.0.0 k.0.0 (sym (append_assoc l (10 ∷ lines_text ls) end) ∙ e ∙ append_assoc m (10 ∷ lines_text ms) rest) in
    let a = among word ls ms end rest h.1 s.1 k.1 c cut.1 in
    let size = a.size in
    let same = ap length cut.0 in
    record { more = a.more; cut = a.cut; fit = a.fit; size = omega (arith, size, same, length-append l (10 ∷ lines_text ls), length-append m (10 ∷ lines_text ms)) }

no_long : (word : List ℕ) (lines : List (List ℕ)) (end front rest : List ℕ) → AllByRecursion IsShortLine lines → Closes word end → (Contains front 10 → ⊥) → rest ≢ [] → lines_text lines ++ end ≡ front ++ rest → length front < line_limit
no_long word [] end front rest s c n more e = c.short front rest n more e
no_long word (l ∷ ls) end front rest s c n more e =
    let size = front_size front l (lines_text ls ++ end) rest n (sym (append_assoc l (10 ∷ lines_text ls) end) ∙ e) in
    let short = s.0 in
    omega (arith, size, short)

-- data up to a word
pub delimited_fits : (at : ℕ) (text word bytes end : List ℕ) (f : FirstLine text (codes "data <<" ++ word)) → AreLines word bytes → f.rest ≡ bytes ++ end → Closes word end → length bytes ≤ body_limit → EndsWithin at text → DataFits at text
delimited_fits at text word bytes end f lines e closes short within = fits
  where
    found : (some rest : List ℕ) (o : OpensLines text some rest) → Among lines.lines o.lines.lines end rest
    found some rest o =
        let first : codes "data <<" ++ o.word ≡ codes "data <<" ++ word = one_line text (codes "data <<" ++ o.word) (codes "data <<" ++ word) o.first f in
        let words : o.word ≡ word = same_tail (codes "data <<") o.word word first in
        let rests : f.rest ≡ o.first.rest = (first_split 10 (codes "data <<" ++ word) (codes "data <<" ++ o.word) f.rest o.first.rest f.one_line o.first.one_line (sym f.spelled ∙ o.first.spelled)).1 in
        among word lines.lines o.lines.lines end rest lines.each lines.fit (subst (λ (w : List ℕ). AllByRecursion (IsOther w) o.lines.lines) words o.lines.each) closes
        (ap (λ (t : List ℕ). t ++ end) (sym lines.value) ∙ sym e ∙ rests ∙ o.cut ∙ ap (λ (t : List ℕ). t ++ rest) o.lines.value)

    many : (number : ℕ) → ManyBytes text number → ⊥
    many number p =
        let size = (found p.bytes p.rest p.opens).size in
        let above = p.above in
        omega (arith, size, above, short, ap length p.opens.lines.value, ap length lines.value)

    long : (number : ℕ) → LongInside text number → ⊥
    long number p =
        let a = found p.bytes p.rest p.opens in
        let size = no_long word a.more end p.long.front p.long.rest a.fit closes p.long.no_feed p.long.more (sym a.cut ∙ p.long.cut) in
        let above = p.long.long in
        omega (arith, size, above)

    fits : DataFits at text
    fits Body number p = many number p
    fits Objects number p = p
    fits Bytes number p = p
    fits Store number p = p
    fits Ledger number p = p
    fits Stream number p = no_over at text number within p
    fits Line number p = long number p
    fits Path number p = p
    fits Ref number p = p
    fits Refs number p = p

-- the line of the word ends the lines
pub word_closes : (word rest : List ℕ) → (Contains word 10 → ⊥) → length word < line_limit → Closes word (word ++ 10 ∷ rest)
word_closes word rest n short = record {
  other = λ line more o e. o.1 (sym (first_split 10 word line rest more n o.0 e).0);
  short = λ front more k some e. let size = front_size front word rest more k e in omega (arith, size, short);
}

-- the input's end does
pub end_closes : (word front : List ℕ) → (Contains front 10 → ⊥) → length front ≤ line_limit → Closes word front
end_closes word front n short = record {
  other = λ line more o e. n (subst (λ (t : List ℕ). Contains t 10) (sym e) (in_middle line more));
  short = λ some more k others e. let left = some_bytes more others in omega (arith, short, left, ap length e, length-append some more);
}
