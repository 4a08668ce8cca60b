-- Data whose bytes are counted.
use Rattle.std.proofs.Common.{◌≡◌, ◌≢◌, ℕ, ◌+◌, ◌-◌, ◌<◌, ◌≤◌, nat_lt, if◌then◌else◌, inl, inr, Bool, true, false, List, [], ◌∷◌, ◌++◌, length, length-append, replicate, Contains, refl, sym, ap, ◌∙◌, subst, arith, append_assoc, codes}
use Rattle.std.proofs.lemmas.List.{append-nil, length-replicate}
use Rattle.swh_base.proofs.Splits.{first_split}
use Rattle.swh_base.specs.Text.{IsNumber, value_from}
use Rattle.swh_base.specs.declared.visit.Which.TheVariants.{Stream}
use Rattle.swh_fastlex.specs.Line.{IsLine}
use Rattle.swh_fastlex.specs.declared.fault.LineFault.{LineFault}
use Rattle.swh_fastlex.specs.declared.fault.LineFault.TheVariants.{Failed, End as Ends, Limit as Limits, Memory as NoRoom}
use Rattle.swh_fastrows.specs.declared.row_source.TheConstants.{STREAM_LIMIT}
use Rattle.swh_fastrows.specs.Explains.{DataPassesAfter, DataFails, cut_fail, data_fail, OpensCounted}
use Rattle.swh_fastrows.specs.Within.{FirstLine, IsCut, Fits}
use Rattle.swh_fastrows.specs.declared.fail.ReadFail.TheVariants.{BadStream, Limit}
use Rattle.swh_fastgrammar.specs.declared.fault.StreamWhy.TheVariants.{End}
use Rattle.swh_fastrows.proofs.Fitting.{EndsWithin, counted_fits, cut_end, row_end}
use Rattle.swh_fastgrammar.specs.Grammar.{contents}
use Rattle.swh_fastrows.specs.Held.{IsNext, IsShort, IsFed}
use Rattle.swh_fastrows.specs.Places.{ReaderState, left, Part, DataLacks}
use Rattle.swh_fastgrammar.specs.Row.{Row, row_text, begins_with, IsData, Opens, IsRow}
use Rattle.swh_fastrows.proofs.HeldLines.{taken, front_of, held_text, held_first, data_counts, next_fits}
use Rattle.swh_fastrows.proofs.Joins.{took_none, took_row}
use Rattle.swh_fastgrammar.proofs.Rows.{same_tail, no_angle}

padded : (text : List ℕ) (n : ℕ) (bytes : List ℕ) → IsNumber text n → length bytes ≡ n → IsData (record { line = codes "data " ++ text; raw = bytes }) bytes (codes "done\n")
padded text n bytes number size = inl (record { text = text; feed = []; line = refl; number = subst (IsNumber text) (sym size) number; raw = sym (append-nil bytes); is_feed = inr (refl, refl) })

plain_data : (text : List ℕ) (n : ℕ) → IsNumber text n → Opens (codes "data " ++ text)
plain_data text n number = (replicate n 0, replicate n 0, codes "done\n", padded text n (replicate n 0) number (length-replicate n 0))

-- data that lack bytes are no row
short_row : (text : List ℕ) (count : ℕ) (rest : List ℕ) → (Contains (codes "data " ++ text) 10 → ⊥) → IsNumber text count → length rest < count → (row : Row) (next : List ℕ) → (codes "data " ++ text) ++ 10 ∷ rest ≡ row_text row ++ next → IsRow row next → ⊥
short_row text count rest no_feed number short row next e h =
    let line : List ℕ = codes "data " ++ text in
    let cut = first_split 10 line row.line rest (row.raw ++ next) no_feed h.one_line (e ∙ append_assoc row.line (10 ∷ row.raw) next) in
    elim h.after [
      | inl d ↦ by_data d.0 d.1 cut.0 cut.1
      | inr o ↦ o.0 (subst Opens cut.0 (plain_data text count number))
    ]
  where
    by_data : (bytes : List ℕ) → IsData row bytes next → codes "data " ++ text ≡ row.line → rest ≡ row.raw ++ next → ⊥
    by_data bytes (inl d) l r =
        let texts : text ≡ d.text = same_tail (codes "data ") text d.text (l ∙ d.line) in
        let n = number.value in let m = d.number.value in let v = ap (value_from 0) texts in
        omega (arith, n, m, v, short, ap length r, length-append row.raw next, ap length d.raw, length-append bytes d.feed)
    by_data bytes (inr d) l r = no_angle text (60 ∷ d.word) count number (same_tail (codes "data ") text (codes "<<" ++ d.word) (l ∙ d.line))

cut_here : (a c : ReaderState) (count : ℕ) → OpensCounted a count → IsLine a.held → IsShort count (taken a) c → IsCut (left a)
cut_here a c count o l s row other f h =
    let line : List ℕ = codes "data " ++ o.0 in
    short_row o.0 count a.rest (front_of a.held line o.1 l) o.2 s.short row other (sym (held_text a line o.1) ∙ f) h

end_here : (a c : ReaderState) (count at : ℕ) → IsShort count (taken a) c → at ≡ c.at → at ≡ a.at + length (left a)
end_here a c count at s e = let here = s.here in omega (arith, e, here, length-append a.held a.rest)

data_lacks : (a c : ReaderState) (count at : ℕ) → OpensCounted a count → IsNext a → IsShort count (taken a) c → at ≡ c.at → at ≤ STREAM_LIMIT → DataLacks a at
data_lacks a c count at o next s e within =
    let l = next.line in
    let short = s.short in
    let here = s.here in
    let fill : List ℕ = replicate (count - length a.rest) 0 in
    let size : length (a.rest ++ fill) ≡ count = omega (arith, length-append a.rest fill, length-replicate {A = ℕ} (count - length a.rest) 0, short) in
    let line : List ℕ = codes "data " ++ o.0 in
    let no_feed = front_of a.held line o.1 l in
    record {
      before = a;
      line = line;
      next = a.rest;
      more = fill;
      bytes = a.rest ++ fill;
      took = took_none a;
      spelled = held_text a line o.1;
      one_line = no_feed;
      fits = record { line = next_fits a line next o.1; inside = counted_fits a.at (left a) o.0 count (held_first a line o.1 l) o.2 (λ size ends. let same = cut_end (left a) (cut_here a c count o l s) size ends in let far = end_here a c count at s e in omega (arith, same, far, within)) };
      cut = cut_here a c count o l s;
      filled = padded o.0 count (a.rest ++ fill) o.2 size;
      here = omega (arith, e, here, length-append a.held a.rest);
    }

-- The input ends after the last byte that a stream may have, inside data.
pub cut_over : (a : ReaderState) (line : List ℕ) (at : ℕ) → FirstLine (left a) line → Opens line → IsCut (left a) → at ≡ a.at + length (left a) → STREAM_LIMIT < at → DataPassesAfter a Stream (STREAM_LIMIT + 1)
cut_over a line at first opens cut here over = record { before = a; line = line; took = took_none a; first = first; opens = opens; passes = record { line = line; first = first; opens = opens; size = length (left a); ends = inr (cut, refl); over = omega (arith, here, over); count = refl } }

-- the two answers where the input ends inside data
pub by_end : (a : ReaderState) (at : ℕ) → (STREAM_LIMIT < at → DataPassesAfter a Stream (STREAM_LIMIT + 1)) → (at ≤ STREAM_LIMIT → DataLacks a at) → DataFails a (cut_fail at)
by_end a at over lacks = decide (nat_lt STREAM_LIMIT at) refl
  where
    decide : (b : Bool) → nat_lt STREAM_LIMIT at ≡ b → DataFails a (if b then Limit Stream (STREAM_LIMIT + 1) else BadStream at End)
    decide true e = inr (over (grind (arith, e)))
    decide false e = inr (lacks (grind (arith, e)))

pub counted_fails : (a c : ReaderState) (fault : LineFault) (count at : ℕ) → OpensCounted a count → IsNext a → fault ≢ Limits → (fault ≡ Ends → IsShort count (taken a) c) → at ≡ c.at → DataFails a (data_fail fault at)
counted_fails a c Failed count at o l n s e = tt
counted_fails a c Ends count at o l n s e =
    let line : List ℕ = codes "data " ++ o.0 in
    by_end a at (cut_over a line at (held_first a line o.1 l.line) (plain_data o.0 count o.2) (cut_here a c count o l.line (s refl)) (end_here a c count at (s refl) e)) (data_lacks a c count at o l (s refl) e)
counted_fails a c Limits count at o l n s e = absurd (n refl)
counted_fails a c NoRoom count at o l n s e = tt

-- a row of data, and the places before and after it
pub record DataRow (a d : ReaderState) (bytes : List ℕ) : Type 0 where
  pub row : Row
  pub data_is : IsData row bytes (left d)
  pub text : left a ≡ row_text row ++ left d
  pub one_line : Contains row.line 10 → ⊥
  pub here : d.at ≡ a.at + length (row_text row)

row_is : (a d : ReaderState) (bytes : List ℕ) (r : DataRow a d bytes) → IsRow r.row (left d)
row_is a d bytes r = record { one_line = r.one_line; after = inl (bytes, r.data_is) }

-- the row ends where the place after it is
pub row_within : (a d : ReaderState) (bytes : List ℕ) (at : ℕ) → DataRow a d bytes → at ≡ d.at → at ≤ STREAM_LIMIT → EndsWithin a.at (left a)
row_within a d bytes at r e within size ends =
    let same = row_end (left a) r.row (left d) r.text (row_is a d bytes r) size ends in
    let here = r.here in
    omega (arith, same, here, e, within)

pub part_of : (a d : ReaderState) (bytes : List ℕ) → DataRow a d bytes → Fits a.at (left a) → Part contents a d bytes
part_of a d bytes r fits = record {
  rows = record { at = a.at; row = r.row } ∷ [];
  took = took_row a d r.row r.text (row_is a d bytes r) (data_counts r.row bytes (left d) r.data_is) fits r.here;
  says = (record { at = a.at; row = r.row }, left d, refl, r.data_is);
}

pub stream_passes : (a d : ReaderState) (bytes : List ℕ) (at : ℕ) → DataRow a d bytes → at ≡ d.at → STREAM_LIMIT < at → DataPassesAfter a Stream (STREAM_LIMIT + 1)
stream_passes a d bytes at r e over =
    let here = r.here in
    let first : FirstLine (left a) r.row.line = record { rest = r.row.raw ++ left d; spelled = r.text ∙ append_assoc r.row.line (10 ∷ r.row.raw) (left d); one_line = r.one_line } in
    let opens : Opens r.row.line = (r.row.raw, bytes, left d, r.data_is) in
    record {
      before = a;
      line = r.row.line;
      took = took_none a;
      first = first;
      opens = opens;
      passes = record { line = r.row.line; first = first; opens = opens; size = length (row_text r.row); ends = inl (r.row, left d, r.text, row_is a d bytes r, refl); over = omega (arith, here, e, over); count = refl };
    }

pub counted_part : (a d : ReaderState) (bytes : List ℕ) (count at : ℕ) → OpensCounted a count → IsNext a → DataRow a d bytes → at ≡ d.at → at ≤ STREAM_LIMIT → Part contents a d bytes
counted_part a d bytes count at o next r e within =
    let line : List ℕ = codes "data " ++ o.0 in
    part_of a d bytes r (record { line = next_fits a line next o.1; inside = counted_fits a.at (left a) o.0 count (held_first a line o.1 next.line) o.2 (row_within a d bytes at r e within) })

pub counted_row : (a c d : ReaderState) (bytes : List ℕ) (count : ℕ) (fed : Bool) → OpensCounted a count → IsLine a.held → length bytes ≡ count → a.rest ≡ bytes ++ c.rest → c.at ≡ (taken a).at + count → IsFed c d fed → d.held ≡ [] → DataRow a d bytes
counted_row a c d bytes count true o l size text at f none =
    let line : List ℕ = codes "data " ++ o.0 in
    let now : left d ≡ d.rest = ap (λ (h : List ℕ). h ++ d.rest) none in
    let next : a.rest ≡ (bytes ++ 10 ∷ []) ++ left d = text ∙ ap (λ (t : List ℕ). bytes ++ t) (f.0 ∙ ap (λ (t : List ℕ). 10 ∷ t) (sym now)) ∙ sym (append_assoc bytes (10 ∷ []) (left d)) in
    let there = f.1 in
    record {
      row = record { line = line; raw = bytes ++ 10 ∷ [] };
      data_is = inl (record { text = o.0; feed = 10 ∷ []; line = refl; number = subst (IsNumber o.0) (sym size) o.2; raw = refl; is_feed = inl refl });
      text = held_text a line o.1 ∙ ap (λ (t : List ℕ). line ++ 10 ∷ t) next ∙ sym (append_assoc line (10 ∷ (bytes ++ 10 ∷ [])) (left d));
      one_line = front_of a.held line o.1 l;
      here = omega (arith, at, there, size, ap length o.1, length-append line (10 ∷ []), length-append line (10 ∷ (bytes ++ 10 ∷ [])), length-append bytes (10 ∷ []));
    }
counted_row a c d bytes count false o l size text at f none =
    let line : List ℕ = codes "data " ++ o.0 in
    let now : left d ≡ d.rest = ap (λ (h : List ℕ). h ++ d.rest) none in
    let same : c.rest ≡ left d = sym f.0 ∙ sym now in
    let next : a.rest ≡ bytes ++ left d = text ∙ ap (λ (t : List ℕ). bytes ++ t) same in
    let there = f.2 in
    record {
      row = record { line = line; raw = bytes };
      data_is = inl (record { text = o.0; feed = []; line = refl; number = subst (IsNumber o.0) (sym size) o.2; raw = sym (append-nil bytes); is_feed = inr (refl, ap (begins_with 10) (sym same) ∙ f.1) });
      text = held_text a line o.1 ∙ ap (λ (t : List ℕ). line ++ 10 ∷ t) next ∙ sym (append_assoc line (10 ∷ bytes) (left d));
      one_line = front_of a.held line o.1 l;
      here = omega (arith, at, there, size, ap length o.1, length-append line (10 ∷ []), length-append line (10 ∷ bytes));
    }
