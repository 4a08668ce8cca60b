-- Rows after rows, and what was read after what was read.
use Rattle.std.proofs.Common.{◌≡◌, ℕ, suc, ◌+◌, ◌⊎◌, inl, inr, Bool, true, false, ◌||◌, if◌then◌else◌, List, [], ◌∷◌, ◌++◌, length, length-append, Contains, refl, sym, ap, ◌∙◌, subst, arith, append_assoc}
use Rattle.swh_base.proofs.Splits.{first_split}
use Rattle.swh_fastgrammar.specs.Grammar.{line_at}
use Rattle.swh_fastrows.specs.Places.{ReaderState, left, Took, FirstLine}
use Rattle.swh_fastrows.specs.Within.{LineFits, Fits, AllFit}
use Rattle.swh_fastrows.proofs.Fitting.{closed_fits}
use Rattle.swh_fastgrammar.specs.Row.{Row, row_text, text_of, begins_with, IsFeed, IsData, Opens, IsRow, AreRows, Placed, placed, is_comment}
use Rattle.swh_fastgrammar.proofs.Faults.{append_nil, text_of-append}
use Rattle.swh_fastgrammar.proofs.Parts.{cons_cut}

abbrev pub plain : List ℕ → Row
plain line = record { line = line; raw = [] }

pub or_assoc : (a b c : Bool) → a || (b || c) ≡ (a || b) || c
or_assoc true b c = refl
or_assoc false b c = refl

pub or-false : (p : Bool) → p || false ≡ p
or-false true = refl
or-false false = refl

pub or-true : (p : Bool) → p || true ≡ true
or-true true = refl
or-true false = refl

pick : (b : Bool) (p : Placed) (xs ys zs : List Placed) → xs ≡ ys ++ zs → (if b then xs else p ∷ xs) ≡ (if b then ys else p ∷ ys) ++ zs
pick true p xs ys zs e = e
pick false p xs ys zs e = ap (λ (t : List Placed). p ∷ t) e

pub placed-append : (at : ℕ) (rs qs : List Row) → placed at (rs ++ qs) ≡ placed at rs ++ placed (at + length (text_of rs)) qs
placed-append at [] qs = ap (λ (n : ℕ). placed n qs) (omega arith)
placed-append at (r ∷ rs) qs =
    let sizes : at + length (row_text r) + length (text_of rs) ≡ at + length (row_text r ++ text_of rs) = omega (arith, length-append (row_text r) (text_of rs)) in
    pick (is_comment r.line) (record { at = at; row = r }) (placed (at + length (row_text r)) (rs ++ qs)) (placed (at + length (row_text r)) rs) (placed (at + length (row_text r ++ text_of rs)) qs)
    (placed-append (at + length (row_text r)) rs qs ∙ ap (λ (n : ℕ). placed (at + length (row_text r)) rs ++ placed n qs) sizes)

pub rows-append : (rs qs : List Row) (x : List ℕ) → AreRows rs (text_of qs ++ x) → AreRows qs x → AreRows (rs ++ qs) x
rows-append [] qs x hr hq = hq
rows-append (r ∷ rs) qs x hr hq =
    let text : text_of rs ++ (text_of qs ++ x) ≡ text_of (rs ++ qs) ++ x = sym (append_assoc (text_of rs) (text_of qs) x) ∙ ap (λ (t : List ℕ). t ++ x) (sym (text_of-append rs qs)) in
    (subst (IsRow r) text hr.0, rows-append rs qs x hr.1 hq)

pub joined : (rows more : List Row) (x : List ℕ) → text_of rows ++ (text_of more ++ x) ≡ text_of (rows ++ more) ++ x
joined rows more x = sym (append_assoc (text_of rows) (text_of more) x) ∙ ap (λ (t : List ℕ). t ++ x) (sym (text_of-append rows more))

-- Where no LF follows in the first text, none does in the second.
abbrev pub Allows : List ℕ → List ℕ → Type 0
Allows x y = begins_with 10 x ≡ false → begins_with 10 y ≡ false

allows-append : (t x y : List ℕ) → Allows x y → Allows (t ++ x) (t ++ y)
allows-append [] x y h = h
allows-append (c ∷ t) x y h = λ f. f

pub allows-line : (line x y : List ℕ) → Allows (line ++ 10 ∷ x) (line ++ 10 ∷ y)
allows-line [] x y = λ f. f
allows-line (c ∷ line) x y = λ f. f

feed-next : (feed x y : List ℕ) → Allows x y → IsFeed feed x → IsFeed feed y
feed-next feed x y h (inl f) = inl f
feed-next feed x y h (inr f) = inr (f.0, h f.1)

pub data-next : (r : Row) (bytes x y : List ℕ) → Allows x y → IsData r bytes x → IsData r bytes y
data-next r bytes x y h (inl d) = inl (record { text = d.text; feed = d.feed; line = d.line; number = d.number; raw = d.raw; is_feed = feed-next d.feed x y h d.is_feed })
data-next r bytes x y h (inr d) = inr (record { word = d.word; lines = d.lines; feed = d.feed; line = d.line; not_empty = d.not_empty; one_line = d.one_line; each = d.each; value = d.value; raw = d.raw; is_feed = feed-next d.feed x y h d.is_feed })

row-next : (r : Row) (x y : List ℕ) → Allows x y → IsRow r x → IsRow r y
row-next r x y h i = record {
  one_line = i.one_line;
  after = elim i.after [
    | inl d ↦ inl (d.0, data-next r d.0 x y h d.1)
    | inr d ↦ inr d
  ];
}

-- only the byte after rows counts
pub rows-next : (rows : List Row) (x y : List ℕ) → Allows x y → AreRows rows x → AreRows rows y
rows-next [] x y h a = tt
rows-next (r ∷ rows) x y h a = (row-next r (text_of rows ++ x) (text_of rows ++ y) (allows-append (text_of rows) x y h) a.0, rows-next rows x y h a.1)

pub fit-append : (at : ℕ) (rs qs : List Row) (x : List ℕ) → AllFit at rs (text_of qs ++ x) → AllFit (at + length (text_of rs)) qs x → AllFit at (rs ++ qs) x
fit-append at [] qs x hr hq = subst (λ (n : ℕ). AllFit n qs x) (omega arith) hq
fit-append at (r ∷ rs) qs x hr hq =
    let sizes : at + length (text_of (r ∷ rs)) ≡ at + length (row_text r) + length (text_of rs) = omega (arith, length-append (row_text r) (text_of rs)) in
    (subst (Fits at) (joined (r ∷ rs) qs x) hr.0, fit-append (at + length (row_text r)) rs qs x hr.1 (subst (λ (n : ℕ). AllFit n qs x) sizes hq))

pub took_none : (a : ReaderState) → Took a a []
took_none a = record { rows = []; spelled = refl; good = tt; fit = tt; those = refl; here = omega arith }

pub took_append : (a b c : ReaderState) (p q : List Placed) → Took a b p → Took b c q → Took a c (p ++ q)
took_append a b c p q s t =
    let n : ℕ = a.at + length (text_of s.rows) in
    let back : placed n t.rows ≡ q = ap (λ (k : ℕ). placed k t.rows) (sym s.here) ∙ t.those in
    let first = s.here in
    let second = t.here in
    record {
      rows = s.rows ++ t.rows;
      spelled = s.spelled ∙ ap (λ (x : List ℕ). text_of s.rows ++ x) t.spelled ∙ joined s.rows t.rows (left c);
      good = rows-append s.rows t.rows (left c) (subst (AreRows s.rows) t.spelled s.good) t.good;
      fit = fit-append a.at s.rows t.rows (left c) (subst (AllFit a.at s.rows) t.spelled s.fit) (subst (λ (k : ℕ). AllFit k t.rows (left c)) s.here t.fit);
      those = placed-append a.at s.rows t.rows ∙ ap (λ (x : List Placed). x ++ placed n t.rows) s.those ∙ ap (λ (x : List Placed). p ++ x) back;
      here = omega (arith, first, second, ap length (text_of-append s.rows t.rows), length-append (text_of s.rows) (text_of t.rows));
    }

pub took_after : (a b c : ReaderState) (q : List Placed) → Took a b [] → Took b c q → Took a c q
took_after a b c q s t = took_append a b c [] q s t

pub took_before : (a b c : ReaderState) (p : List Placed) → Took a b p → Took b c [] → Took a c p
took_before a b c p s t = subst (Took a c) (append_nil p) (took_append a b c p [] s t)

-- what was read and what is left are as long as what was left
pub took_size : (a b : ReaderState) (p : List Placed) → Took a b p → a.at + length (left a) ≡ b.at + length (left b)
took_size a b p t = let h = t.here in omega (arith, h, ap length t.spelled, length-append (text_of t.rows) (left b))

keep_row : (b : Bool) (p : Placed) (ps : List Placed) → b ≡ false → (if b then ps else p ∷ ps) ≡ p ∷ ps
keep_row true p ps e = absurd cc
keep_row false p ps e = refl

drop_row : (b : Bool) (p : Placed) (ps : List Placed) → b ≡ true → (if b then ps else p ∷ ps) ≡ ps
drop_row true p ps e = refl
drop_row false p ps e = absurd cc

pub placed_row : (n : ℕ) (r : Row) (rs : List Row) → is_comment r.line ≡ false → placed n (r ∷ rs) ≡ record { at = n; row = r } ∷ placed (n + length (row_text r)) rs
placed_row n r rs e = keep_row (is_comment r.line) (record { at = n; row = r }) (placed (n + length (row_text r)) rs) e

one_text : (r : Row) → text_of (r ∷ []) ≡ row_text r
one_text r = append_nil (row_text r)

pub took_row : (a b : ReaderState) (r : Row) → left a ≡ row_text r ++ left b → IsRow r (left b) → is_comment r.line ≡ false → Fits a.at (left a) → b.at ≡ a.at + length (row_text r) → Took a b (record { at = a.at; row = r } ∷ [])
took_row a b r e i c k h = record {
  rows = r ∷ [];
  spelled = e ∙ ap (λ (x : List ℕ). x ++ left b) (sym (one_text r));
  good = (i, tt);
  fit = (subst (Fits a.at) (e ∙ ap (λ (x : List ℕ). x ++ left b) (sym (one_text r))) k, tt);
  those = placed_row a.at r [] c;
  here = h ∙ ap (λ (x : List ℕ). a.at + length x) (sym (one_text r));
}

pub took_comment : (a b : ReaderState) (r : Row) → left a ≡ row_text r ++ left b → IsRow r (left b) → is_comment r.line ≡ true → Fits a.at (left a) → b.at ≡ a.at + length (row_text r) → Took a b []
took_comment a b r e i c k h = record {
  rows = r ∷ [];
  spelled = e ∙ ap (λ (x : List ℕ). x ++ left b) (sym (one_text r));
  good = (i, tt);
  fit = (subst (Fits a.at) (e ∙ ap (λ (x : List ℕ). x ++ left b) (sym (one_text r))) k, tt);
  those = drop_row (is_comment r.line) (record { at = a.at; row = r }) [] c;
  here = h ∙ ap (λ (x : List ℕ). a.at + length x) (sym (one_text r));
}

pub plain_row : (line next : List ℕ) → (Contains line 10 → ⊥) → (Opens line → ⊥) → IsRow (plain line) next
plain_row line next n o = record { one_line = n; after = inr (o, refl) }

-- a line that opens no data
pub took_line : (a b : ReaderState) (line : List ℕ) → left a ≡ line ++ 10 ∷ left b → (Contains line 10 → ⊥) → (Opens line → ⊥) → is_comment line ≡ false → LineFits a.at (left a) → b.at ≡ a.at + length line + 1 → Took a b (line_at a.at line ∷ [])
took_line a b line e n o c k h =
    took_row a b (plain line) (e ∙ sym (append_assoc line (10 ∷ []) (left b))) (plain_row line (left b) n o) c (record { line = k; inside = closed_fits a.at (left a) line (record { rest = left b; spelled = e; one_line = n }) o }) (omega (arith, h, length-append line (10 ∷ [])))

pub one_first : (text l m : List ℕ) → FirstLine text l → FirstLine text m → l ≡ m
one_first text l m f g = (first_split 10 l m f.rest g.rest f.one_line g.one_line (sym f.spelled ∙ g.spelled)).0

pub has_first : (c : ℕ) (t : List ℕ) → c ≡ 10 → Contains (c ∷ t) 10
has_first c t e = (0, omega arith, e)

pub has_more : (c : ℕ) (t : List ℕ) → Contains t 10 → Contains (c ∷ t) 10
has_more c t h = let l = h.1 in (suc h.0, omega (arith, l), h.2)

abbrev tail : List ℕ → List ℕ
tail [] = []
tail (c ∷ t) = t

-- what follows an LF does not change the first line
pub same_first : (a x y l : List ℕ) → FirstLine (a ++ 10 ∷ x) l → FirstLine (a ++ 10 ∷ y) l
same_first [] x y [] f = record { rest = y; spelled = refl; one_line = f.one_line }
same_first [] x y (c ∷ l) f = let e = f.spelled in absurd (f.one_line (has_first c l cc))
same_first (c ∷ a) x y [] f =
    let e = f.spelled in
    let first : c ≡ 10 = cc in
    record { rest = a ++ 10 ∷ y; spelled = ap (λ (d : ℕ). d ∷ (a ++ 10 ∷ y)) first; one_line = f.one_line }
same_first (c ∷ a) x y (d ∷ l) f =
    let e = f.spelled in
    let first : c ≡ d = cc in
    let inner : FirstLine (a ++ 10 ∷ x) l = record { rest = f.rest; spelled = ap tail e; one_line = λ h. f.one_line (has_more d l h) } in
    let more = same_first a x y l inner in
    record { rest = more.rest; spelled = ap (λ (t : List ℕ). c ∷ t) more.spelled ∙ ap (λ (k : ℕ). k ∷ (l ++ 10 ∷ more.rest)) first; one_line = f.one_line }

-- of two divisions of one list, the front of one goes on from the front of the other
pub fronts : (a b c d : List Placed) → a ++ b ≡ c ++ d → ((z : List Placed) × (c ≡ a ++ z) × (b ≡ z ++ d)) ⊎ ((q : Placed) × (m : List Placed) × (a ≡ c ++ q ∷ m) × (d ≡ q ∷ (m ++ b)))
fronts [] b c d e = inl (c, refl, e)
fronts (p ∷ a) b [] d e = inr (p, a, refl, sym e)
fronts (p ∷ a) b (q ∷ c) d e =
    let cut = cons_cut p q (a ++ b) (c ++ d) e in
    let first = cut.0 in
    elim (fronts a b c d cut.1) [
      | inl h ↦ let same = h.1 in inl (h.0, cc, h.2)
      | inr h ↦ let same = h.2 in inr (h.0, h.1, cc, h.3)
    ]
