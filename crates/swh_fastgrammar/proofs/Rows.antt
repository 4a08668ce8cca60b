-- A text has one division into rows.
use Rattle.std.proofs.Common.{◌≡◌, ℕ, zero, suc, ◌⊎◌, inl, inr, true, List, [], ◌∷◌, ◌++◌, length, Contains, refl, sym, ap, ◌∙◌, subst, arith, append_assoc, codes}
use Rattle.std.specs.List.{AllByRecursion}
use Rattle.swh_base.proofs.Splits.{first_split, sized_split}
use Rattle.swh_base.specs.Text.{IsNumber, value_from, is_digit}
use Rattle.swh_fastlex.specs.Delimited.{IsOther, lines_text}
use Rattle.swh_fastgrammar.specs.Row.{Row, row_text, text_of, begins_with, IsFeed, IsData, Opens, IsRow, AreRows}

pub same_tail : (a x y : List ℕ) → a ++ x ≡ a ++ y → x ≡ y
same_tail a x y e = (sized_split a a x y refl e).1

-- the LF after data is taken by both, or by none
one_feed : (a b x y : List ℕ) → IsFeed a x → IsFeed b y → a ++ x ≡ b ++ y → (a ≡ b) × (x ≡ y)
one_feed a b x y (inl ea) (inl eb) e = let t : 10 ∷ x ≡ 10 ∷ y = ap (λ (s : List ℕ). s ++ x) (sym ea) ∙ e ∙ ap (λ (s : List ℕ). s ++ y) eb in (ea ∙ sym eb, cc)
one_feed a b x y (inr ea) (inr eb) e = let t : x ≡ y = ap (λ (s : List ℕ). s ++ x) (sym ea.0) ∙ e ∙ ap (λ (s : List ℕ). s ++ y) eb.0 in (ea.0 ∙ sym eb.0, t)
one_feed a b x y (inl ea) (inr eb) e = let t : 10 ∷ x ≡ y = ap (λ (s : List ℕ). s ++ x) (sym ea) ∙ e ∙ ap (λ (s : List ℕ). s ++ y) eb.0 in let u : begins_with 10 y ≡ true = ap (begins_with 10) (sym t) in let v = eb.1 in absurd (cc)
one_feed a b x y (inr ea) (inl eb) e = let t : 10 ∷ y ≡ x = ap (λ (s : List ℕ). s ++ y) (sym eb) ∙ sym e ∙ ap (λ (s : List ℕ). s ++ x) ea.0 in let u : begins_with 10 x ≡ true = ap (begins_with 10) (sym t) in let v = ea.1 in absurd (cc)

-- lines up to the line that is just the delimiter
one_lines : (word : List ℕ) (ls ms : List (List ℕ)) (x y : List ℕ) → (Contains word 10 → ⊥) → AllByRecursion (IsOther word) ls → AllByRecursion (IsOther word) ms → lines_text ls ++ (word ++ 10 ∷ x) ≡ lines_text ms ++ (word ++ 10 ∷ y) → (ls ≡ ms) × (x ≡ y)
one_lines word [] [] x y n h k e = (refl, (first_split 10 word word x y n n e).1)
one_lines word [] (m ∷ ms) x y n h k e =
    let cut : word ++ 10 ∷ x ≡ m ++ 10 ∷ (lines_text ms ++ (word ++ 10 ∷ y)) = e ∙ append_assoc m (10 ∷ lines_text ms) (word ++ 10 ∷ y) in
    absurd (k.0.1 (sym (first_split 10 word m x (lines_text ms ++ (word ++ 10 ∷ y)) n k.0.0 cut).0))
one_lines word (l ∷ ls) [] x y n h k e =
    let cut : l ++ 10 ∷ (lines_text ls ++ (word ++ 10 ∷ x)) ≡ word ++ 10 ∷ y = sym (append_assoc l (10 ∷ lines_text ls) (word ++ 10 ∷ x)) ∙ e in
    absurd (h.0.1 ((first_split 10 l word (lines_text ls ++ (word ++ 10 ∷ x)) y h.0.0 n cut).0))
one_lines word (l ∷ ls) (m ∷ ms) x y n h k e =
    let cut : l ++ 10 ∷ (lines_text ls ++ (word ++ 10 ∷ x)) ≡ m ++ 10 ∷ (lines_text ms ++ (word ++ 10 ∷ y)) = sym (append_assoc l (10 ∷ lines_text ls) (word ++ 10 ∷ x)) ∙ e ∙ append_assoc m (10 ∷ lines_text ms) (word ++ 10 ∷ y) in
    let first = first_split 10 l m (lines_text ls ++ (word ++ 10 ∷ x)) (lines_text ms ++ (word ++ 10 ∷ y)) h.0.0 k.0.0 cut in
    let others = one_lines word ls ms x y n h.1 k.1 first.1 in
    let head = first.0 in
    let tail = others.0 in
    (cc, others.1)

-- a byte of the tail is a byte of the whole
pub in_tail : (a b : List ℕ) (s : ℕ) → Contains b s → Contains (a ++ b) s
in_tail [] b s h = h
in_tail (c ∷ a) b s h = let k = in_tail a b s h in let l = k.1 in (suc k.0, omega (arith, l), k.2)

-- no number begins with `<`
pub no_angle : (text word : List ℕ) (n : ℕ) → IsNumber text n → text ≡ 60 ∷ word → ⊥
no_angle [] word n h e = cc
no_angle (c ∷ text) word n h e =
    let c_is : c ≡ 60 = cc in
    let d : is_digit c ≡ true = h.digits zero c (omega arith) in
    let f : is_digit 60 ≡ true = subst (λ (k : ℕ). is_digit k ≡ true) c_is d in
    absurd cc

-- of one line, two pieces of data that begin one text are the same
one_data : (r s : Row) (b c x y : List ℕ) → r.line ≡ s.line → IsData r b x → IsData s c y → r.raw ++ x ≡ s.raw ++ y → (r.raw ≡ s.raw) × (x ≡ y) × (b ≡ c)
one_data r s b c x y l (inl d) (inl f) e =
    let texts : d.text ≡ f.text = same_tail (codes "data ") d.text f.text (sym d.line ∙ l ∙ f.line) in
    let lengths : length b ≡ length c = d.number.value ∙ ap (value_from 0) texts ∙ sym f.number.value in
    let text : b ++ (d.feed ++ x) ≡ c ++ (f.feed ++ y) = sym (append_assoc b d.feed x) ∙ ap (λ (t : List ℕ). t ++ x) (sym d.raw) ∙ e ∙ ap (λ (t : List ℕ). t ++ y) f.raw ∙ append_assoc c f.feed y in
    let at_end = sized_split b c (d.feed ++ x) (f.feed ++ y) lengths text in
    let feeds = one_feed d.feed f.feed x y d.is_feed f.is_feed at_end.1 in
    (d.raw ∙ ap (λ (t : List ℕ). t ++ d.feed) at_end.0 ∙ ap (λ (t : List ℕ). c ++ t) feeds.0 ∙ sym f.raw, feeds.1, at_end.0)
one_data r s b c x y l (inl d) (inr f) e = absurd (no_angle d.text (60 ∷ f.word) (length b) d.number (same_tail (codes "data ") d.text (codes "<<" ++ f.word) (sym d.line ∙ l ∙ f.line)))
one_data r s b c x y l (inr d) (inl f) e = absurd (no_angle f.text (60 ∷ d.word) (length c) f.number (same_tail (codes "data ") f.text (codes "<<" ++ d.word) (sym f.line ∙ sym l ∙ d.line)))
one_data r s b c x y l (inr d) (inr f) e =
    let words : d.word ≡ f.word = same_tail (codes "data <<") d.word f.word (sym d.line ∙ l ∙ f.line) in
    let left : r.raw ++ x ≡ lines_text d.lines ++ (d.word ++ 10 ∷ (d.feed ++ x)) =
    ap (λ (t : List ℕ). t ++ x) (d.raw ∙ ap (λ (t : List ℕ). t ++ (d.word ++ 10 ∷ d.feed)) d.value) ∙ append_assoc (lines_text d.lines) (d.word ++ 10 ∷ d.feed) x ∙ ap (λ (t : List ℕ). lines_text d.lines ++ t) (append_assoc d.word (10 ∷ d.feed) x) in
    let right : s.raw ++ y ≡ lines_text f.lines ++ (d.word ++ 10 ∷ (f.feed ++ y)) =
    ap (λ (t : List ℕ). t ++ y) (f.raw ∙ ap (λ (t : List ℕ). t ++ (f.word ++ 10 ∷ f.feed)) f.value) ∙ append_assoc (lines_text f.lines) (f.word ++ 10 ∷ f.feed) y ∙ ap (λ (t : List ℕ). lines_text f.lines ++ t) (append_assoc f.word (10 ∷ f.feed) y)
    ∙ ap (λ (w : List ℕ). lines_text f.lines ++ (w ++ 10 ∷ (f.feed ++ y))) (sym words) in
    let others : AllByRecursion (IsOther d.word) f.lines = subst (λ (w : List ℕ). AllByRecursion (IsOther w) f.lines) (sym words) f.each in
    let cut = one_lines d.word d.lines f.lines (d.feed ++ x) (f.feed ++ y) d.one_line d.each others (sym left ∙ e ∙ right) in
    let feeds = one_feed d.feed f.feed x y d.is_feed f.is_feed cut.1 in
    let values : b ≡ c = d.value ∙ ap lines_text cut.0 ∙ sym f.value in
    (d.raw ∙ ap (λ (t : List ℕ). t ++ (d.word ++ 10 ∷ d.feed)) values ∙ ap (λ (w : List ℕ). c ++ (w ++ 10 ∷ d.feed)) words ∙ ap (λ (t : List ℕ). c ++ (f.word ++ 10 ∷ t)) feeds.0 ∙ sym f.raw, feeds.1, values)

-- A row of data says one value, wherever it stands.
pub one_contents : (r : Row) (b c x y : List ℕ) → IsData r b x → IsData r c y → b ≡ c
one_contents r b c x y (inl d) (inl f) =
    let texts : d.text ≡ f.text = same_tail (codes "data ") d.text f.text (sym d.line ∙ f.line) in
    let lengths : length b ≡ length c = d.number.value ∙ ap (value_from 0) texts ∙ sym f.number.value in
    (sized_split b c d.feed f.feed lengths (sym d.raw ∙ f.raw)).0
one_contents r b c x y (inl d) (inr f) = absurd (no_angle d.text (60 ∷ f.word) (length b) d.number (same_tail (codes "data ") d.text (codes "<<" ++ f.word) (sym d.line ∙ f.line)))
one_contents r b c x y (inr d) (inl f) = absurd (no_angle f.text (60 ∷ d.word) (length c) f.number (same_tail (codes "data ") f.text (codes "<<" ++ d.word) (sym f.line ∙ d.line)))
one_contents r b c x y (inr d) (inr f) =
    let words : d.word ≡ f.word = same_tail (codes "data <<") d.word f.word (sym d.line ∙ f.line) in
    let left : r.raw ≡ lines_text d.lines ++ (d.word ++ 10 ∷ d.feed) = d.raw ∙ ap (λ (t : List ℕ). t ++ (d.word ++ 10 ∷ d.feed)) d.value in
    let right : r.raw ≡ lines_text f.lines ++ (d.word ++ 10 ∷ f.feed) = f.raw ∙ ap (λ (t : List ℕ). t ++ (f.word ++ 10 ∷ f.feed)) f.value ∙ ap (λ (w : List ℕ). lines_text f.lines ++ (w ++ 10 ∷ f.feed)) (sym words) in
    let others : AllByRecursion (IsOther d.word) f.lines = subst (λ (w : List ℕ). AllByRecursion (IsOther w) f.lines) (sym words) f.each in
    let cut = one_lines d.word d.lines f.lines d.feed f.feed d.one_line d.each others (sym left ∙ right) in
    d.value ∙ ap lines_text cut.0 ∙ sym f.value

same_row : (r s : Row) → r.line ≡ s.line → r.raw ≡ s.raw → r ≡ s
same_row r s l w =
    let a : r ≡ record { line = s.line; raw = r.raw } = ap (λ (x : List ℕ). let q : Row = record { line = x; raw = r.raw } in q) l in
    let b : record { line = s.line; raw = r.raw } ≡ s = ap (λ (x : List ℕ). let q : Row = record { line = s.line; raw = x } in q) w in
    a ∙ b

-- no row's text begins another's
pub one_row : (r s : Row) (x y : List ℕ) → IsRow r x → IsRow s y → row_text r ++ x ≡ row_text s ++ y → (r ≡ s) × (x ≡ y)
one_row r s x y hr hs e =
    let cut : r.line ++ 10 ∷ (r.raw ++ x) ≡ s.line ++ 10 ∷ (s.raw ++ y) = sym (append_assoc r.line (10 ∷ r.raw) x) ∙ e ∙ append_assoc s.line (10 ∷ s.raw) y in
    let lines = first_split 10 r.line s.line (r.raw ++ x) (s.raw ++ y) hr.one_line hs.one_line cut in
    elim hr.after [
      | inl d ↦ elim hs.after [
        | inl f ↦ let both = one_data r s d.0 f.0 x y lines.0 d.1 f.1 lines.1 in (same_row r s lines.0 both.0, both.1)
        | inr f ↦ absurd (f.0 (subst Opens lines.0 (r.raw, d.0, x, d.1)))
      ]
      | inr d ↦ elim hs.after [
        | inl f ↦ absurd (d.0 (subst Opens (sym lines.0) (s.raw, f.0, y, f.1)))
        | inr f ↦ (same_row r s lines.0 (d.1 ∙ sym f.1), ap (λ (t : List ℕ). t ++ x) (sym d.1) ∙ lines.1 ∙ ap (λ (t : List ℕ). t ++ y) f.1)
      ]
    ]

-- Two divisions of one text: one goes on from the other.
pub goes_on : (rs qs : List Row) (x y : List ℕ) → AreRows rs x → AreRows qs y → text_of rs ++ x ≡ text_of qs ++ y → ((more : List Row) × (qs ≡ rs ++ more) × (x ≡ text_of more ++ y) × AreRows more y) ⊎ ((r : Row) × (more : List Row) × (rs ≡ qs ++ r ∷ more) × (y ≡ text_of (r ∷ more) ++ x) × AreRows (r ∷ more) x)
goes_on [] qs x y hr hq e = inl (qs, refl, e, hq)
goes_on (r ∷ rs) [] x y hr hq e = inr (r, rs, refl, sym e, hr)
goes_on (r ∷ rs) (q ∷ qs) x y hr hq e =
    let text : row_text r ++ (text_of rs ++ x) ≡ row_text q ++ (text_of qs ++ y) = sym (append_assoc (row_text r) (text_of rs) x) ∙ e ∙ append_assoc (row_text q) (text_of qs) y in
    let one = one_row r q (text_of rs ++ x) (text_of qs ++ y) hr.0 hq.0 text in
    let first = one.0 in
    elim (goes_on rs qs x y hr.1 hq.1 one.1) [
      | inl h ↦ let same = h.1 in inl (h.0, cc, h.2, h.3)
      | inr h ↦ let same = h.2 in inr (h.0, h.1, cc, h.3, h.4)
    ]
