-- Rows that are rows whatever follows them, and that pass no limit.
use Rattle.std.proofs.Common.{◌≡◌, ℕ, zero, suc, ◌+◌, ◌^◌, ◌<◌, ◌≤◌, inl, inr, true, false, List, [], ◌∷◌, ◌++◌, length, length-append, Contains, refl, sym, ap, ◌∙◌, subst, arith, append_assoc, codes}
use Rattle.std.specs.Prelude.{decimal, nat_eq}
use Rattle.std.specs.List.{AllByRecursion, starts_with}
use Rattle.swh_base.specs.Limits.{body_limit, line_limit, ref_limit, tag_limit}
use Rattle.swh_base.specs.Text.{IsNumber}
use Rattle.swh_base.specs.declared.visit.Which.{Which}
use Rattle.swh_fastgrammar.specs.Row.{Row, row_text, text_of, IsData, Opens, IsRow, AreRows, is_comment}
use Rattle.swh_fastgrammar.proofs.Rows.{same_tail}
use Rattle.swh_fastlines.specs.Limit.{ref_words, PassesRefs, PassesPaths, PassesCount, PassesWords}
use Rattle.swh_fastlines.proofs.WordLimits.{no_words}
use Rattle.swh_fastrows.specs.declared.row_source.TheConstants.{STREAM_LIMIT}
use Rattle.swh_fastrows.specs.Within.{FirstLine, Fits, AllFit}
use Rattle.swh_fastrows.proofs.Fitting.{line_fits, closed_fits, counted_fits, row_end, EndsWithin}
use Rattle.swh_fastrows.proofs.Joins.{plain, plain_row}
use Rattle.swh_roundtrip.proofs.Numerals.{number_again, number-lacks}

-- A row whatever follows it, which passes no limit where the stream is not too long.
pub record IsFreeRow (row : Row) : Type 0 where
  pub good : (next : List ℕ) → IsRow row next
  pub fits : (at : ℕ) (next : List ℕ) → at + length (row_text row) ≤ STREAM_LIMIT → Fits at (row_text row ++ next)

abbrev pub AreFreeRows : List Row → Type 0
AreFreeRows rows = AllByRecursion IsFreeRow rows

pub free-append : (a b : List Row) → AreFreeRows a → AreFreeRows b → AreFreeRows (a ++ b)
free-append [] b h k = k
free-append (r ∷ a) b h k = (h.0, free-append a b h.1 k)

pub are-rows : (rows : List Row) (next : List ℕ) → AreFreeRows rows → AreRows rows next
are-rows [] next h = tt
are-rows (r ∷ rows) next h = (h.0.good (text_of rows ++ next), are-rows rows next h.1)

pub all-fit : (at : ℕ) (rows : List Row) (next : List ℕ) → AreFreeRows rows → at + length (text_of rows) ≤ STREAM_LIMIT → AllFit at rows next
all-fit at [] next h within = tt
all-fit at (r ∷ rows) next h within =
    let sizes : length (text_of (r ∷ rows)) ≡ length (row_text r) + length (text_of rows) = length-append (row_text r) (text_of rows) in
    let one : at + length (row_text r) ≤ STREAM_LIMIT = omega (arith, sizes, within) in
    let more : at + length (row_text r) + length (text_of rows) ≤ STREAM_LIMIT = omega (arith, sizes, within) in
    let here = h.0.fits at (text_of rows ++ next) one in (subst (Fits at) (sym (append_assoc (row_text r) (text_of rows) next)) here, all-fit (at + length (row_text r)) rows next h.1 more)

-- ## Lines

-- A line that opens no data, counts, and passes no limit.
pub record IsGoodLine (line : List ℕ) : Type 0 where
  pub no_feed : Contains line 10 → ⊥
  pub closed : Opens line → ⊥
  pub counts : is_comment line ≡ false
  pub short : length line < line_limit
  pub words : (which : Which) (number : ℕ) → PassesWords line which number → ⊥

first_of_line : (line next : List ℕ) → (Contains line 10 → ⊥) → FirstLine (line ++ 10 ∷ next) line
first_of_line line next n = record { rest = next; spelled = refl; one_line = n }

pub free_line : (line : List ℕ) → IsGoodLine line → IsFreeRow (plain line)
free_line line h = record {
  good = λ next. plain_row line next h.no_feed h.closed;
  fits = fits;
}
  where
    fits : (at : ℕ) (next : List ℕ) → at + length (line ++ 10 ∷ []) ≤ STREAM_LIMIT → Fits at ((line ++ 10 ∷ []) ++ next)
    fits at next within =
        let size = length-append line (10 ∷ []) in
        let text : (line ++ 10 ∷ []) ++ next ≡ line ++ 10 ∷ next = append_assoc line (10 ∷ []) next in
        let k : Fits at (line ++ 10 ∷ next) = record {
          line = line_fits at line next h.no_feed (omega (arith, size, within)) h.short (λ c. h.words);
          inside = closed_fits at (line ++ 10 ∷ next) line (first_of_line line next h.no_feed) h.closed;
        } in
        subst (Fits at) (sym text) k

-- ## Data

-- bytes as data whose bytes are counted, with an LF after them
abbrev pub data_row : List ℕ → Row
data_row bytes = record { line = codes "data " ++ decimal (length bytes); raw = bytes ++ 10 ∷ [] }

-- what is said of each word before a ref
by_word : (P : List ℕ → ℕ → Type 0) → P (codes "commit ") ref_limit → P (codes "reset ") ref_limit → P (codes "from ") ref_limit → P (codes "merge ") ref_limit → P (codes "tag ") tag_limit
    → (word : List ℕ) (limit : ℕ) → Contains ref_words (word, limit) → P word limit
by_word P a b c d e word limit (zero, l, same) = subst (λ (x : List ℕ × ℕ). P x.0 x.1) same a
by_word P a b c d e word limit (suc zero, l, same) = subst (λ (x : List ℕ × ℕ). P x.0 x.1) same b
by_word P a b c d e word limit (suc (suc zero), l, same) = subst (λ (x : List ℕ × ℕ). P x.0 x.1) same c
by_word P a b c d e word limit (suc (suc (suc zero)), l, same) = subst (λ (x : List ℕ × ℕ). P x.0 x.1) same d
by_word P a b c d e word limit (suc (suc (suc (suc zero))), l, same) = subst (λ (x : List ℕ × ℕ). P x.0 x.1) same e
by_word P a b c d e word limit (suc (suc (suc (suc (suc n)))), l, same) = absurd (omega (arith, l))

-- The line does not begin with this word.
abbrev pub Lacks : List ℕ → List ℕ → Type 0
Lacks word line = starts_with nat_eq line word ≡ false

pub lacking : (word line text : List ℕ) → ((rest : List ℕ) → starts_with nat_eq (word ++ rest) word ≡ true) → Lacks word line → line ≡ word ++ text → ⊥
lacking word line text own none is = let bad : true ≡ false = sym (own text) ∙ ap (λ (t : List ℕ). starts_with nat_eq t word) (sym is) ∙ none in cc

-- It begins with no word before a ref;
abbrev pub NoRefWord : List ℕ → Type 0
NoRefWord line = Lacks (codes "commit ") line × Lacks (codes "reset ") line × Lacks (codes "from ") line × Lacks (codes "merge ") line × Lacks (codes "tag ") line

-- with no word of a change;
abbrev pub NoPathWord : List ℕ → Type 0
NoPathWord line = Lacks (codes "M ") line × Lacks (codes "D ") line × Lacks (codes "C ") line × Lacks (codes "R ") line

-- and not with the word of data.
abbrev pub NoDataWord : List ℕ → Type 0
NoDataWord line = Lacks (codes "data ") line

pub no_refs : (line : List ℕ) → NoRefWord line → (number : ℕ) → PassesRefs line number → ⊥
no_refs line h number p = none p.word p.limit p.one p.text p.spelled
  where
    none : (word : List ℕ) (limit : ℕ) → Contains ref_words (word, limit) → (text : List ℕ) → line ≡ word ++ text → ⊥
    none = by_word (λ word limit. (text : List ℕ) → line ≡ word ++ text → ⊥)
        (λ text is. lacking (codes "commit ") line text (λ rest. refl) h.0 is)
        (λ text is. lacking (codes "reset ") line text (λ rest. refl) h.1 is)
        (λ text is. lacking (codes "from ") line text (λ rest. refl) h.2 is)
        (λ text is. lacking (codes "merge ") line text (λ rest. refl) h.3 is)
        (λ text is. lacking (codes "tag ") line text (λ rest. refl) h.4 is)

pub no_paths : (line : List ℕ) → NoPathWord line → (number : ℕ) → PassesPaths line number → ⊥
no_paths line h number (inl p) = lacking (codes "D ") line p.0 (λ rest. refl) h.1 p.1
no_paths line h number (inr (inl p)) = lacking (codes "M ") line p.0 (λ rest. refl) h.0 p.1
no_paths line h number (inr (inr (text, inl is, p))) = lacking (codes "C ") line text (λ rest. refl) h.2 is
no_paths line h number (inr (inr (text, inr is, p))) = lacking (codes "R ") line text (λ rest. refl) h.3 is

pub no_count : (line : List ℕ) → NoDataWord line → (number : ℕ) → PassesCount line number → ⊥
no_count line h number p = lacking (codes "data ") line p.0 (λ rest. refl) h p.1

pub closed_line : (line : List ℕ) → NoDataWord line → Opens line → ⊥
closed_line line h (raw, bytes, next, inl d) = lacking (codes "data ") line d.text (λ rest. refl) h d.line
closed_line line h (raw, bytes, next, inr d) = lacking (codes "data ") line (codes "<<" ++ d.word) (λ rest. refl) h d.line

-- a line of another word
pub good_line : (line : List ℕ) → (Contains line 10 → ⊥) → length line < line_limit → is_comment line ≡ false → NoDataWord line → NoRefWord line → NoPathWord line → IsGoodLine line
good_line line n short counts d r p = record {
  no_feed = n;
  closed = closed_line line d;
  counts = counts;
  short = short;
  words = no_words line (no_count line d) (no_refs line r) (no_paths line p);
}

-- a line before a ref
pub ref_line : (line : List ℕ) → (Contains line 10 → ⊥) → length line < line_limit → is_comment line ≡ false → NoDataWord line → ((number : ℕ) → PassesRefs line number → ⊥) → NoPathWord line → IsGoodLine line
ref_line line n short counts d r p = record {
  no_feed = n;
  closed = closed_line line d;
  counts = counts;
  short = short;
  words = no_words line (no_count line d) r (no_paths line p);
}

-- ## Data of so many bytes

digits_short : (n : ℕ) → n < 10 ^ 18 → length (codes "data " ++ decimal n) < line_limit
digits_short n small = let few = (number_again n small).short in omega arith

data-no_feed : (n : ℕ) → n < 10 ^ 18 → Contains (codes "data " ++ decimal n) 10 → ⊥
data-no_feed n small h = none (codes "data ") (decimal n) (λ k. nothing_in_data k) (number-lacks (decimal n) n 10 refl (number_again n small)) h
  where
    none : (a b : List ℕ) → (Contains a 10 → ⊥) → (Contains b 10 → ⊥) → Contains (a ++ b) 10 → ⊥
    none [] b x y k = y k
    none (c ∷ a) b x y (zero, l, e) = x (0, omega arith, e)
    none (c ∷ a) b x y (suc k, l, e) = none a b (λ (j, m, f). x (suc j, omega (arith, m), f)) y (k, omega (arith, l), e)

    nothing_in_data : Contains (codes "data ") 10 → ⊥
    nothing_in_data (zero, l, e) = cc
    nothing_in_data (suc zero, l, e) = cc
    nothing_in_data (suc (suc zero), l, e) = cc
    nothing_in_data (suc (suc (suc zero)), l, e) = cc
    nothing_in_data (suc (suc (suc (suc zero))), l, e) = cc
    nothing_in_data (suc (suc (suc (suc (suc k)))), l, e) = absurd (omega (arith, l))

data_count : (n number : ℕ) → n ≤ body_limit → n < 10 ^ 18 → PassesCount (codes "data " ++ decimal n) number → ⊥
data_count n number within small p =
    let digits : p.0 ≡ decimal n = sym (same_tail (codes "data ") (decimal n) p.0 p.1) in
    let read : IsNumber (decimal n) number = subst (λ (t : List ℕ). IsNumber t number) digits p.2 in
    let same : number ≡ n = read.value ∙ sym (number_again n small).value in
    let above = p.3 in omega (arith, same, above, within)

pub is_data : (bytes next : List ℕ) → length bytes < 10 ^ 18 → IsData (data_row bytes) bytes next
is_data bytes next small = inl (record {
  text = decimal (length bytes);
  feed = 10 ∷ [];
  line = refl;
  number = number_again (length bytes) small;
  raw = refl;
  is_feed = inl refl;
})

pub free_data : (bytes : List ℕ) → length bytes ≤ body_limit → IsFreeRow (data_row bytes)
free_data bytes within = record { good = good; fits = fits }
  where
    small : length bytes < 10 ^ 18
    small = omega (arith, within)

    good : (next : List ℕ) → IsRow (data_row bytes) next
    good next = record { one_line = data-no_feed (length bytes) small; after = inl (bytes, is_data bytes next small) }

    words : (which : Which) (number : ℕ) → PassesWords (codes "data " ++ decimal (length bytes)) which number → ⊥
    words = no_words (codes "data " ++ decimal (length bytes)) (λ number. data_count (length bytes) number within small)
        (no_refs (codes "data " ++ decimal (length bytes)) (refl, refl, refl, refl, refl)) (no_paths (codes "data " ++ decimal (length bytes)) (refl, refl, refl, refl))

    fits : (at : ℕ) (next : List ℕ) → at + length (row_text (data_row bytes)) ≤ STREAM_LIMIT → Fits at (row_text (data_row bytes) ++ next)
    fits at next inside =
        let begun : List ℕ = codes "data " ++ decimal (length bytes) in
        let behind : List ℕ = (bytes ++ 10 ∷ []) ++ next in
        let text : row_text (data_row bytes) ++ next ≡ begun ++ 10 ∷ behind = append_assoc begun (10 ∷ (bytes ++ 10 ∷ [])) next in
        let size = length-append begun (10 ∷ (bytes ++ 10 ∷ [])) in
        let first : FirstLine (begun ++ 10 ∷ behind) begun = first_of_line begun behind (data-no_feed (length bytes) small) in
        let ends : EndsWithin at (begun ++ 10 ∷ behind) = λ n e. (let same = row_end (begun ++ 10 ∷ behind) (data_row bytes) next (sym text) (good next) n e in omega (arith, same, inside)) in
        let k : Fits at (begun ++ 10 ∷ behind) = record {
          line = line_fits at begun behind (data-no_feed (length bytes) small) (omega (arith, size, inside)) (digits_short (length bytes) small) (λ c. words);
          inside = counted_fits at (begun ++ 10 ∷ behind) (decimal (length bytes)) (length bytes) first (number_again (length bytes) small) ends;
        } in
        subst (Fits at) (sym text) k
