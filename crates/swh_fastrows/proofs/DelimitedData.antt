-- Data up to a delimiter.
use Rattle.std.proofs.Common.{◌≡◌, ◌≢◌, ◌⊎◌, ℕ, ◌+◌, ◌<◌, ◌≤◌, inl, inr, Bool, true, false, List, [], ◌∷◌, ◌++◌, length, length-append, Contains, refl, sym, ap, ◌∙◌, subst, arith, append_assoc, codes}
use Rattle.std.proofs.lemmas.Slice.Eq.{bytes_eq-Decides}
use Rattle.std.specs.List.{AllByRecursion}
use Rattle.std.specs.Str.{bytes_eq}
use Rattle.swh_base.proofs.Splits.{first_split}
use Rattle.swh_base.specs.Limits.{body_limit, line_limit}
use Rattle.swh_fastlex.specs.Delimited.{IsOther, lines_text, AreLines}
use Rattle.swh_fastlex.specs.Line.{IsLine}
use Rattle.swh_fastlex.specs.declared.fault.DataFault.{DataFault}
use Rattle.swh_fastlex.specs.declared.fault.DataFault.TheVariants as Data
use Rattle.swh_fastrows.specs.Explains.{DataFails, OpensDelimited, lines_fail}
use Rattle.swh_fastrows.specs.declared.row_source.TheConstants.{STREAM_LIMIT}
use Rattle.swh_fastrows.specs.Within.{IsCut, OpensLines}
use Rattle.swh_fastgrammar.specs.Grammar.{contents}
use Rattle.swh_fastrows.proofs.Fitting.{EndsWithin, delimited_fits, word_closes, end_closes, cut_end}
use Rattle.swh_fastrows.specs.Held.{IsNext, IsFed, TakesLines, CutsLines, LinesFail}
use Rattle.swh_fastrows.specs.Places.{ReaderState, left, Part, DataLacks}
use Rattle.swh_fastgrammar.specs.Row.{Row, row_text, begins_with, IsFeed, IsData, Opens, IsRow}
use Rattle.swh_fastrows.proofs.HeldLines.{taken, front_of, held_text, held_first, in_middle, next_fits}
use Rattle.swh_fastrows.proofs.Joins.{took_none}
use Rattle.swh_fastrows.proofs.CountedData.{DataRow, cut_over, by_end, part_of, row_within}
use Rattle.swh_fastgrammar.proofs.Rows.{same_tail, no_angle}

is_or_not : (a b : List ℕ) → (a ≡ b) ⊎ (a ≢ b)
is_or_not a b = decide (bytes_eq a b) refl
  where
    decide : (r : Bool) → bytes_eq a b ≡ r → (a ≡ b) ⊎ (a ≢ b)
    decide true e = inl ((bytes_eq-Decides a b).0 e)
    decide false e = inr (λ f. let t : true ≡ false = sym ((bytes_eq-Decides a b).1 f) ∙ e in absurd cc)

lines_push : (word : List ℕ) (ls : List (List ℕ)) (l : List ℕ) → AllByRecursion (IsOther word) ls → IsOther word l → AllByRecursion (IsOther word) (ls ++ l ∷ [])
lines_push word [] l h k = (k, tt)
lines_push word (m ∷ ls) l h k = (h.0, lines_push word ls l h.1 k)

text_push : (ls : List (List ℕ)) (l : List ℕ) → lines_text (ls ++ l ∷ []) ≡ lines_text ls ++ (l ++ 10 ∷ [])
text_push [] l = refl
text_push (m ∷ ls) l = ap (λ (t : List ℕ). m ++ 10 ∷ t) (text_push ls l) ∙ sym (append_assoc m (10 ∷ lines_text ls) (l ++ 10 ∷ []))

-- lines and the front of one more have no line of the word
no_end : (word : List ℕ) (ls ms : List (List ℕ)) (front x : List ℕ) → (Contains word 10 → ⊥) → AllByRecursion (IsOther word) ls → AllByRecursion (IsOther word) ms → (Contains front 10 → ⊥) → lines_text ls ++ front ≡ lines_text ms ++ (word ++ 10 ∷ x) → ⊥
no_end word [] [] front x n h k f e = f (subst (λ (t : List ℕ). Contains t 10) (sym e) (in_middle word x))
no_end word [] (m ∷ ms) front x n h k f e = f (subst (λ (t : List ℕ). Contains t 10) (sym (e ∙ append_assoc m (10 ∷ lines_text ms) (word ++ 10 ∷ x))) (in_middle m (lines_text ms ++ (word ++ 10 ∷ x))))
no_end word (l ∷ ls) [] front x n h k f e = h.0.1 (first_split 10 l word (lines_text ls ++ front) x h.0.0 n (sym (append_assoc l (10 ∷ lines_text ls) front) ∙ e)).0
no_end word (l ∷ ls) (m ∷ ms) front x n h k f e =
    let cut = first_split 10 l m (lines_text ls ++ front) (lines_text ms ++ (word ++ 10 ∷ x)) h.0.0 k.0.0 (sym (append_assoc l (10 ∷ lines_text ls) front) ∙ e ∙ append_assoc m (10 ∷ lines_text ms) (word ++ 10 ∷ x)) in
    no_end word ls ms front x n h.1 k.1 f cut.1

abbrev line_of : List ℕ → List ℕ
line_of word = codes "data <<" ++ word

-- data of these lines
others_data : (word bytes feed next : List ℕ) (lines : List (List ℕ)) → word ≢ [] → (Contains word 10 → ⊥) → AllByRecursion (IsOther word) lines → bytes ≡ lines_text lines → IsFeed feed next → IsData (record { line = line_of word; raw = bytes ++ (word ++ 10 ∷ feed) }) bytes next
others_data word bytes feed next lines some one each value f = inr (record { word = word; lines = lines; feed = feed; line = refl; not_empty = some; one_line = one; each = each; value = value; raw = refl; is_feed = f })

lines_data : (word bytes feed next : List ℕ) → word ≢ [] → (Contains word 10 → ⊥) → AreLines word bytes → IsFeed feed next → IsData (record { line = line_of word; raw = bytes ++ (word ++ 10 ∷ feed) }) bytes next
lines_data word bytes feed next some one l f = others_data word bytes feed next l.lines some one l.each l.value f

line_opens : (word : List ℕ) → word ≢ [] → (Contains word 10 → ⊥) → Opens (line_of word)
line_opens word some one = (word ++ 10 ∷ [], [], codes "done\n", lines_data word [] [] (codes "done\n") some one (record { lines = []; each = tt; fit = tt; value = refl }) (inr (refl, refl)))

cut_row : (word bytes front : List ℕ) → word ≢ [] → (Contains word 10 → ⊥) → (Contains (line_of word) 10 → ⊥) → AreLines word bytes → (Contains front 10 → ⊥) → (row : Row) (next : List ℕ) → line_of word ++ 10 ∷ (bytes ++ front) ≡ row_text row ++ next → IsRow row next → ⊥
cut_row word bytes front some one no_feed l f row next e h =
    let cut = first_split 10 (line_of word) row.line (bytes ++ front) (row.raw ++ next) no_feed h.one_line (e ∙ append_assoc row.line (10 ∷ row.raw) next) in
    elim h.after [
      | inl d ↦ by_data d.0 d.1 cut.0 cut.1
      | inr o ↦ o.0 (subst Opens cut.0 (line_opens word some one))
    ]
  where
    by_data : (value : List ℕ) → IsData row value next → line_of word ≡ row.line → bytes ++ front ≡ row.raw ++ next → ⊥
    by_data value (inl d) x r = no_angle d.text (60 ∷ word) (length value) d.number (sym (same_tail (codes "data ") (codes "<<" ++ word) d.text (x ∙ d.line)))
    by_data value (inr d) x r =
        let words : word ≡ d.word = same_tail (codes "data <<") word d.word (x ∙ d.line) in
        let others : AllByRecursion (IsOther word) d.lines = subst (λ (w : List ℕ). AllByRecursion (IsOther w) d.lines) (sym words) d.each in
        let right : row.raw ++ next ≡ lines_text d.lines ++ (word ++ 10 ∷ (d.feed ++ next)) =
        ap (λ (t : List ℕ). t ++ next) (d.raw ∙ ap (λ (t : List ℕ). t ++ (d.word ++ 10 ∷ d.feed)) d.value) ∙ append_assoc (lines_text d.lines) (d.word ++ 10 ∷ d.feed) next ∙ ap (λ (t : List ℕ). lines_text d.lines ++ t) (append_assoc d.word (10 ∷ d.feed) next)
        ∙ ap (λ (w : List ℕ). lines_text d.lines ++ (w ++ 10 ∷ (d.feed ++ next))) (sym words) in
        no_end word l.lines d.lines front (d.feed ++ next) one l.each others f (ap (λ (t : List ℕ). t ++ front) (sym l.value) ∙ r ∙ right)

-- what more would end the data
pub record Fills (word next : List ℕ) : Type 0 where
  pub more : List ℕ
  pub bytes : List ℕ
  pub filled : IsData (record { line = line_of word; raw = next ++ more }) bytes (codes "done\n")

fills : (word bytes front : List ℕ) → word ≢ [] → (Contains word 10 → ⊥) → AreLines word bytes → (Contains front 10 → ⊥) → Fills word (bytes ++ front)
fills word bytes front some one l f = elim (is_or_not front word) [
  | inl e ↦ record {
    more = 10 ∷ [];
    bytes = bytes;
    filled = subst (λ (r : List ℕ). IsData (record { line = line_of word; raw = r }) bytes (codes "done\n")) (ap (λ (t : List ℕ). bytes ++ (t ++ 10 ∷ [])) (sym e) ∙ sym (append_assoc bytes front (10 ∷ [])))
        (lines_data word bytes [] (codes "done\n") some one l (inr (refl, refl)));
  }
  | inr n ↦
      let each = lines_push word l.lines front l.each (f, n) in
      let value : bytes ++ (front ++ 10 ∷ []) ≡ lines_text (l.lines ++ front ∷ []) = ap (λ (t : List ℕ). t ++ (front ++ 10 ∷ [])) l.value ∙ sym (text_push l.lines front) in
      record {
        more = 10 ∷ (word ++ 10 ∷ []);
        bytes = bytes ++ (front ++ 10 ∷ []);
        filled = subst (λ (r : List ℕ). IsData (record { line = line_of word; raw = r }) (bytes ++ (front ++ 10 ∷ [])) (codes "done\n"))
            (append_assoc bytes (front ++ 10 ∷ []) (word ++ 10 ∷ []) ∙ ap (λ (t : List ℕ). bytes ++ t) (append_assoc front (10 ∷ []) (word ++ 10 ∷ [])) ∙ sym (append_assoc bytes front (10 ∷ (word ++ 10 ∷ []))))
            (others_data word (bytes ++ (front ++ 10 ∷ [])) [] (codes "done\n") (l.lines ++ front ∷ []) some one each value (inr (refl, refl)));
      }
]

-- what is left, where the lines end before the line of the word
cut_text : (a c : ReaderState) (word : List ℕ) → OpensDelimited a word → (s : CutsLines (taken a) c word body_limit) → left a ≡ line_of word ++ 10 ∷ (s.bytes ++ s.front)
cut_text a c word o s = held_text a (line_of word) o.line ∙ ap (λ (t : List ℕ). line_of word ++ 10 ∷ t) s.all

cut_here : (a c : ReaderState) (word : List ℕ) → OpensDelimited a word → IsLine a.held → CutsLines (taken a) c word body_limit → IsCut (left a)
cut_here a c word o l s row other f h = cut_row word s.bytes s.front o.not_empty o.one_line (front_of a.held (line_of word) o.line l) s.lines s.no_feed row other (sym (cut_text a c word o s) ∙ f) h

end_here : (a c : ReaderState) (word : List ℕ) (at : ℕ) → CutsLines (taken a) c word body_limit → at ≡ c.at → at ≡ a.at + length (left a)
end_here a c word at s e = let here = s.here in omega (arith, e, here, length-append a.held a.rest)

lines_lack : (a c : ReaderState) (word : List ℕ) (at : ℕ) → OpensDelimited a word → IsNext a → CutsLines (taken a) c word body_limit → at ≡ c.at → at ≤ STREAM_LIMIT → DataLacks a at
lines_lack a c word at o next s e within =
    let l = next.line in
    let fill = fills word s.bytes s.front o.not_empty o.one_line s.lines s.no_feed in
    let first = held_first a (line_of word) o.line l in
    let ends : EndsWithin a.at (left a) = λ size ends. let same = cut_end (left a) (cut_here a c word o l s) size ends in let far = end_here a c word at s e in omega (arith, same, far, within) in
    record {
      before = a;
      line = line_of word;
      next = s.bytes ++ s.front;
      more = fill.more;
      bytes = fill.bytes;
      took = took_none a;
      spelled = cut_text a c word o s;
      one_line = front_of a.held (line_of word) o.line l;
      fits = record { line = next_fits a (line_of word) next o.line; inside = delimited_fits a.at (left a) word s.bytes s.front first s.lines s.all (end_closes word s.front s.no_feed s.short) s.within ends };
      cut = cut_here a c word o l s;
      filled = fill.filled;
      here = end_here a c word at s e;
    }

opens_lines : (a : ReaderState) (word bytes rest : List ℕ) → OpensDelimited a word → IsLine a.held → AreLines word bytes → a.rest ≡ bytes ++ rest → OpensLines (left a) bytes rest
opens_lines a word bytes rest o l lines e = record { word = word; first = held_first a (line_of word) o.line l; opens = line_opens word o.not_empty o.one_line; lines = lines; cut = e }

pub delimited_fails : (a c : ReaderState) (word : List ℕ) (fault : DataFault) (at : ℕ) → OpensDelimited a word → IsNext a → LinesFail (taken a) c word body_limit fault → at ≡ c.at → DataFails a (lines_fail fault at)
delimited_fails a c word Data.Failed at o n s e = tt
delimited_fails a c word Data.End at o n s e = by_end a at (cut_over a (line_of word) at (held_first a (line_of word) o.line n.line) (line_opens word o.not_empty o.one_line) (cut_here a c word o n.line s) (end_here a c word at s e)) (lines_lack a c word at o n s e)
delimited_fails a c word Data.Line at o n s e = inr (record {
  before = a;
  line = line_of word;
  took = took_none a;
  first = held_first a (line_of word) o.line n.line;
  opens = line_opens word o.not_empty o.one_line;
  passes = record { bytes = s.bytes; rest = s.front ++ c.rest; opens = opens_lines a word s.bytes (s.front ++ c.rest) o n.line s.lines (s.cut ∙ append_assoc s.bytes s.front c.rest); long = record { front = s.front; rest = c.rest; cut = refl; no_feed = s.no_feed; long = s.long; more = s.more }; count = refl };
})
delimited_fails a c word Data.Body at o n s e = inr (record {
  before = a;
  line = line_of word;
  took = took_none a;
  first = held_first a (line_of word) o.line n.line;
  opens = line_opens word o.not_empty o.one_line;
  passes = record { bytes = s.bytes; rest = c.rest; opens = opens_lines a word s.bytes c.rest o n.line s.lines s.cut; above = s.above; count = refl };
})
delimited_fails a c word Data.Memory at o n s e = tt

pub delimited_part : (a c d : ReaderState) (word bytes : List ℕ) (at : ℕ) → OpensDelimited a word → IsNext a → AreLines word bytes → length bytes ≤ body_limit → TakesLines (taken a) c word bytes → DataRow a d bytes → at ≡ d.at → at ≤ STREAM_LIMIT → Part contents a d bytes
delimited_part a c d word bytes at o next lines within t r e far =
    let short = next.short in
    let words : length word < line_limit = omega (arith, short, ap length o.line, length-append word (10 ∷ [])) in
    let after : a.rest ≡ bytes ++ (word ++ 10 ∷ c.rest) = t.cut ∙ append_assoc bytes (word ++ 10 ∷ []) c.rest ∙ ap (λ (x : List ℕ). bytes ++ x) (append_assoc word (10 ∷ []) c.rest) in
    part_of a d bytes r (record { line = next_fits a (line_of word) next o.line; inside = delimited_fits a.at (left a) word bytes (word ++ 10 ∷ c.rest) (held_first a (line_of word) o.line next.line) lines after (word_closes word c.rest o.one_line words) within (row_within a d bytes at r e far) })

pub delimited_row : (a c d : ReaderState) (word bytes : List ℕ) (fed : Bool) → OpensDelimited a word → IsLine a.held → AreLines word bytes → TakesLines (taken a) c word bytes → IsFed c d fed → d.held ≡ [] → DataRow a d bytes
delimited_row a c d word bytes true o l lines t f none =
    let now : left d ≡ d.rest = ap (λ (h : List ℕ). h ++ d.rest) none in
    let raw : List ℕ = bytes ++ (word ++ 10 ∷ (10 ∷ [])) in
    let next : a.rest ≡ raw ++ left d =
    t.cut ∙ ap (λ (x : List ℕ). (bytes ++ (word ++ 10 ∷ [])) ++ x) (f.0 ∙ ap (λ (x : List ℕ). 10 ∷ x) (sym now)) ∙ append_assoc bytes (word ++ 10 ∷ []) (10 ∷ left d) ∙ ap (λ (x : List ℕ). bytes ++ x) (append_assoc word (10 ∷ []) (10 ∷ left d) ∙ sym (append_assoc word (10 ∷ (10 ∷ [])) (left d)))
    ∙ sym (append_assoc bytes (word ++ 10 ∷ (10 ∷ [])) (left d)) in
    let there = f.1 in let here = t.here in
    record {
      row = record { line = line_of word; raw = raw };
      data_is = lines_data word bytes (10 ∷ []) (left d) o.not_empty o.one_line lines (inl refl);
      text = held_text a (line_of word) o.line ∙ ap (λ (x : List ℕ). line_of word ++ 10 ∷ x) next ∙ sym (append_assoc (line_of word) (10 ∷ raw) (left d));
      one_line = front_of a.held (line_of word) o.line l;
      here = omega (arith, here, there, ap length o.line, length-append (line_of word) (10 ∷ []), length-append (line_of word) (10 ∷ raw), length-append bytes (word ++ 10 ∷ (10 ∷ [])), length-append bytes (word ++ 10 ∷ []), length-append word (10 ∷ (10 ∷ [])), length-append word (10 ∷ []));
    }
delimited_row a c d word bytes false o l lines t f none =
    let now : left d ≡ d.rest = ap (λ (h : List ℕ). h ++ d.rest) none in
    let raw : List ℕ = bytes ++ (word ++ 10 ∷ []) in
    let same : c.rest ≡ left d = sym f.0 ∙ sym now in
    let next : a.rest ≡ raw ++ left d = t.cut ∙ ap (λ (x : List ℕ). raw ++ x) same in
    let there = f.2 in let here = t.here in
    record {
      row = record { line = line_of word; raw = raw };
      data_is = lines_data word bytes [] (left d) o.not_empty o.one_line lines (inr (refl, ap (begins_with 10) (sym same) ∙ f.1));
      text = held_text a (line_of word) o.line ∙ ap (λ (x : List ℕ). line_of word ++ 10 ∷ x) next ∙ sym (append_assoc (line_of word) (10 ∷ raw) (left d));
      one_line = front_of a.held (line_of word) o.line l;
      here = omega (arith, here, there, ap length o.line, length-append (line_of word) (10 ∷ []), length-append (line_of word) (10 ∷ raw));
    }
