-- An item's rows before a stream, and before a text with a fault.
use Rattle.std.proofs.Common.{◌≡◌, ℕ, ◌+◌, ◌⊎◌, inl, inr, Bool, true, false, ◌||◌, if◌then◌else◌, List, [], ◌∷◌, ◌++◌, length, length-append, Contains, refl, sym, ap, ◌∙◌, subst, arith, append_assoc, codes}
use Rattle.std.specs.List.{list_any}
use Rattle.swh_base.proofs.Splits.{absent, not_nil}
use Rattle.swh_fastgrammar.specs.declared.command.Command.{Command}
use Rattle.swh_fastgrammar.specs.Fault.{BeginsStream, BeginsRows, Reaches, IsLineFault, IsEndFault}
use Rattle.swh_fastgrammar.specs.Grammar.{many, Item, IsItem, is_promise, commands_of, Ends, IsWhole, IsStream}
use Rattle.swh_fastgrammar.specs.Grammar.Item.{Says, Promise, Nothing}
use Rattle.swh_fastrows.specs.Outcome.{Ended}
use Rattle.swh_fastrows.specs.Places.{FirstLine, MayCount}
use Rattle.swh_fastgrammar.specs.Row.{Row, row_text, text_of, AreRows, Placed, placed, is_comment}
use Rattle.swh_fastgrammar.proofs.Faults.{append_nil, text_of-append, row_cut, row_line}
use Rattle.swh_fastgrammar.proofs.Kept.{kept, AllKept, row_kept, item_keeps}
use Rattle.swh_fastgrammar.proofs.Parts.{cons_cut}
use Rattle.swh_fastgrammar.proofs.Rows.{goes_on}
use Rattle.swh_fastgrammar.proofs.Streams.{is_inner, AllInner, shape, Stops, items_stop, some_item, item_one}
use Rattle.swh_fastrows.proofs.Joins.{or_assoc, placed-append, rows-append, joined, rows-next, allows-line, same_first, fronts}

pub one_item : (rows : List Placed) (i : Item) → IsItem rows i → many IsItem rows (i ∷ [])
one_item rows i h = (rows, [], sym (append_nil rows), h, refl)

-- no stream ends before the last of rows that all count
pub stops_inside : (at : ℕ) (rows qs : List Row) (r : Row) (m : List Row) (x ending : List ℕ) (b : Bool) → rows ≡ qs ++ r ∷ m → ending ≡ text_of (r ∷ m) ++ x → AreRows (r ∷ m) x → AllKept (placed at rows) → Ends b ending → ⊥
stops_inside at rows qs r m x ending b e g a k (inl n) = not_nil r.line (r.raw ++ (text_of m ++ x)) 10 (sym (row_cut r m x) ∙ sym g ∙ n.0)
stops_inside at rows qs r m x ending b e g a k (inr n) =
    let same = row_line r m (codes "done") n.0 x (absent 10 (codes "done") refl) a (sym n.1 ∙ g) in
    let t : kept r.line ≡ true = row_kept at qs r m (subst (λ (z : List Row). AllKept (placed at z)) e k) (ap is_comment same) in
    let u : true ≡ false = sym t ∙ ap kept same in
    absurd cc

pub rows_first : (n : ℕ) (rs : List Row) (ending : List ℕ) → AreRows rs ending → (q : Placed) (m : List Placed) → placed n rs ≡ q ∷ m → MayCount (text_of rs ++ ending) q.row.line
rows_first n [] ending a q m e = absurd cc
rows_first n (r ∷ rs) ending a q m e = decide (is_comment r.line) refl e
  where
    first : FirstLine (text_of (r ∷ rs) ++ ending) r.line
    first = record { rest = r.raw ++ (text_of rs ++ ending); spelled = row_cut r rs ending; one_line = a.0.one_line }

    decide : (b : Bool) → is_comment r.line ≡ b → (if b then placed (n + length (row_text r)) rs else record { at = n; row = r } ∷ placed (n + length (row_text r)) rs) ≡ q ∷ m → MayCount (text_of (r ∷ rs) ++ ending) q.row.line
    decide true f g = inr (r.line, first, f)
    decide false f g =
        let same = (cons_cut (record { at = n; row = r }) q (placed (n + length (row_text r)) rs) m g).0 in
        inl (subst (λ (x : Placed). FirstLine (text_of (r ∷ rs) ++ ending) x.row.line) same first)

inner_at : (a : List Placed) (p : Placed) (b : List Placed) → AllInner (a ++ p ∷ b) → is_inner p.row.line ≡ true
inner_at [] p b h = h.0
inner_at (x ∷ a) p b h = inner_at a p b h.1

-- items of rows that begin with an item's rows begin with the item
pub first_item : (part rest : List Placed) (i : Item) (items : List Item) → IsItem part i → ((q : Placed) (m back : List Placed) (j : Item) → rest ≡ q ∷ (m ++ back) → IsItem (part ++ q ∷ m) j → ⊥) → many IsItem (part ++ rest) items → (others : List Item) × (items ≡ i ∷ others) × many IsItem rest others
first_item part rest i [] h stop s = absurd (some_item part rest i h (sym s))
first_item part rest i (j ∷ js) h stop s =
    elim (fronts s.0 s.1 part rest (sym s.2)) [
      | inl f ↦ by_tail f.0 f.1 f.2
      | inr f ↦ absurd (stop f.0 f.1 s.1 j f.3 (subst (λ (x : List Placed). IsItem x j) f.2 s.3))
    ]
  where
    by_tail : (z : List Placed) → part ≡ s.0 ++ z → s.1 ≡ z ++ rest → (others : List Item) × (j ∷ js ≡ i ∷ others) × many IsItem rest others
    by_tail [] e f =
        let same = item_one part i j h (subst (λ (x : List Placed). IsItem x j) (sym (e ∙ append_nil s.0)) s.3) in
        (js, ap (λ (x : Item). x ∷ js) (sym same), subst (λ (x : List Placed). many IsItem x js) f s.4)
    by_tail (p ∷ z) e f =
        let a = shape part i h in
        let b = shape s.0 j s.3 in
        let whole : a.first ∷ a.others ≡ b.first ∷ (b.others ++ p ∷ z) = sym a.rows_are ∙ e ∙ ap (λ (x : List Placed). x ++ p ∷ z) b.rows_are in
        let inner : is_inner p.row.line ≡ true = inner_at b.others p z (subst AllInner (cons_cut a.first b.first a.others (b.others ++ p ∷ z) whole).1 a.inner) in
        let outer : is_inner p.row.line ≡ false = subst Stops f (items_stop s.1 js s.4) in
        let n : true ≡ false = sym inner ∙ outer in
        absurd cc

pub cons-commands : (i : Item) (items : List Item) (cs : List Command) → cs ≡ commands_of items → commands_of (i ∷ []) ++ cs ≡ commands_of (i ∷ items)
cons-commands (Says c) items cs e = ap (λ (t : List Command). c ∷ t) e
cons-commands Promise items cs e = e
cons-commands Nothing items cs e = e

-- a stream's text after an item of it
pub record Strips (at : ℕ) (p : Bool) (x : List ℕ) (i : Item) (cs : List Command) : Type 0 where
  pub others : List Command
  pub stream : IsStream at (p || is_promise i) x others
  pub these : cs ≡ commands_of (i ∷ []) ++ others

pub strip : (at : ℕ) (p : Bool) (rows : List Row) (x : List ℕ) (i : Item) (cs : List Command) → AreRows rows x → IsItem (placed at rows) i → Ended (placed at rows) x → IsStream at p (text_of rows ++ x) cs → Strips (at + length (text_of rows)) p x i cs
strip at p rows x i cs good h ended s =
    elim (goes_on rows s.rows x s.ending good s.whole.good s.spelled) [
      | inl g ↦ on g.0 g.1 g.2 g.3
      | inr g ↦ absurd (stops_inside at rows s.rows g.0 g.1 x s.ending (p || list_any is_promise s.whole.items) g.2 g.3 g.4 (item_keeps (placed at rows) i h) s.whole.ends)
    ]
  where
    on : (more : List Row) → s.rows ≡ rows ++ more → x ≡ text_of more ++ s.ending → AreRows more s.ending → Strips (at + length (text_of rows)) p x i cs
    on more e t a =
        let n : ℕ = at + length (text_of rows) in
        let cut : placed at s.rows ≡ placed at rows ++ placed n more = ap (placed at) e ∙ placed-append at rows more in
        let r = first_item (placed at rows) (placed n more) i s.whole.items h (λ q m back j f k. ended q m j (subst (λ (z : List ℕ). MayCount z q.row.line) (sym t) (rows_first n more s.ending a q (m ++ back) f)) k) (subst (λ (z : List Placed). many IsItem z s.whole.items) cut s.whole.said) in
        let ends : Ends (p || list_any is_promise (i ∷ r.0)) s.ending = subst (λ (z : List Item). Ends (p || list_any is_promise z) s.ending) r.1 s.whole.ends in
        record {
          others = commands_of r.0;
          stream = record {
            rows = more;
            ending = s.ending;
            spelled = t;
            whole = record { items = r.0; good = a; said = r.2; ends = subst (λ (b : Bool). Ends b s.ending) (or_assoc p (is_promise i) (list_any is_promise r.0)) ends; these = refl };
          };
          these = s.whole.these ∙ ap commands_of r.1 ∙ sym (cons-commands i r.0 (commands_of r.0) refl);
        }

-- the text has an item's rows in front
pub record Spelled (at : ℕ) (text x : List ℕ) (i : Item) : Type 0 where
  pub rows : List Row
  pub text_is : text ≡ text_of rows ++ x
  pub good : AreRows rows x
  pub said : IsItem (placed at rows) i
  pub ended : Ended (placed at rows) x

pub whole_more : (at : ℕ) (p : Bool) (rows more : List Row) (ending : List ℕ) (i : Item) (cs : List Command) → AreRows rows (text_of more ++ ending) → IsItem (placed at rows) i → IsWhole (at + length (text_of rows)) (p || is_promise i) more ending cs → IsWhole at p (rows ++ more) ending (commands_of (i ∷ []) ++ cs)
whole_more at p rows more ending i cs good h w = record {
  items = i ∷ w.items;
  good = rows-append rows more ending good w.good;
  said = (placed at rows, placed (at + length (text_of rows)) more, placed-append at rows more, h, w.said);
  ends = subst (λ (b : Bool). Ends b ending) (sym (or_assoc p (is_promise i) (list_any is_promise w.items))) w.ends;
  these = cons-commands i w.items cs w.these;
}

abbrev pub prepend : (at : ℕ) (p : Bool) (text : List ℕ) (rows : List Row) (x : List ℕ) (i : Item) (cs : List Command) → text ≡ text_of rows ++ x → AreRows rows x → IsItem (placed at rows) i → IsStream (at + length (text_of rows)) (p || is_promise i) x cs → IsStream at p text (commands_of (i ∷ []) ++ cs)
prepend at p text rows x i cs e good h t = record {
  rows = rows ++ t.rows;
  ending = t.ending;
  spelled = e ∙ ap (λ (z : List ℕ). text_of rows ++ z) t.spelled ∙ joined rows t.rows t.ending;
  whole = whole_more at p rows t.rows t.ending i cs (subst (AreRows rows) t.spelled good) h t.whole;
}

-- some stream begins with an item's rows and what one begins with after them
may_more : (at : ℕ) (p : Bool) (rows more : List Row) (x rest : List ℕ) (i : Item) → AreRows rows x → x ≡ text_of more ++ rest → IsItem (placed at rows) i → BeginsRows (at + length (text_of rows)) (p || is_promise i) more → BeginsRows at p (rows ++ more)
may_more at p rows [] x rest i good e h b = record {
  more = [];
  ending = codes "done\n";
  commands = commands_of (i ∷ []);
  whole = subst (λ (z : List Row). IsWhole at p z (codes "done\n") (commands_of (i ∷ []))) (sym (append_nil (rows ++ []) ∙ append_nil rows)) (record { items = i ∷ []; good = rows-next rows x (codes "done\n") (λ f. refl) good; said = one_item (placed at rows) i h; ends = inr ([], refl); these = refl });
}
may_more at p rows (r ∷ more) x rest i good e h b =
    let all : List Row = r ∷ (more ++ b.more) in
    let now : x ≡ r.line ++ 10 ∷ (r.raw ++ (text_of more ++ rest)) = e ∙ row_cut r more rest in
    let then_ : r.line ++ 10 ∷ (r.raw ++ (text_of (more ++ b.more) ++ b.ending)) ≡ text_of all ++ b.ending = sym (row_cut r (more ++ b.more) b.ending) in
    let next : AreRows rows (text_of all ++ b.ending) = subst (AreRows rows) then_ (rows-next rows (r.line ++ 10 ∷ (r.raw ++ (text_of more ++ rest))) (r.line ++ 10 ∷ (r.raw ++ (text_of (more ++ b.more) ++ b.ending))) (allows-line r.line (r.raw ++ (text_of more ++ rest)) (r.raw ++ (text_of (more ++ b.more) ++ b.ending))) (subst (AreRows rows) now good)) in
    record {
      more = b.more;
      ending = b.ending;
      commands = commands_of (i ∷ []) ++ b.commands;
      whole = subst (λ (z : List Row). IsWhole at p z b.ending (commands_of (i ∷ []) ++ b.commands)) (sym (append_assoc rows (r ∷ more) b.more)) (whole_more at p rows all b.ending i b.commands next h b.whole);
    }

pub reaches_more : (at : ℕ) (p : Bool) (text x : List ℕ) (front rows : List Row) (rest : List ℕ) (i : Item) (cs : List Command) → text ≡ text_of front ++ x → AreRows front x → IsItem (placed at front) i → Reaches (at + length (text_of front)) (p || is_promise i) x rows rest cs → Reaches at p text (front ++ rows) rest (commands_of (i ∷ []) ++ cs)
reaches_more at p text x front rows rest i cs e good h b = record {
  spelled = e ∙ ap (λ (z : List ℕ). text_of front ++ z) b.spelled ∙ joined front rows rest;
  good = rows-append front rows rest (subst (AreRows front) b.spelled good) b.good;
  may = may_more at p front rows x rest i good b.spelled h b.may;
  whole = placed at front ++ b.whole;
  part = b.part;
  items = i ∷ b.items;
  cut = placed-append at front rows ∙ ap (λ (z : List Placed). placed at front ++ z) b.cut ∙ sym (append_assoc (placed at front) b.whole b.part);
  said = (placed at front, b.whole, refl, h, b.said);
  unfinished = b.unfinished;
  these = cons-commands i b.items cs b.these;
}

-- what is next does not change where only what follows an LF does
pub ended-next : (part : List Placed) (a x y : List ℕ) → Ended part (a ++ 10 ∷ x) → Ended part (a ++ 10 ∷ y)
ended-next part a x y h q more j m k = h q more j (back m) k
  where
    back : MayCount (a ++ 10 ∷ y) q.row.line → MayCount (a ++ 10 ∷ x) q.row.line
    back (inl f) = inl (same_first a y x q.row.line f)
    back (inr f) = inr (f.0, same_first a y x f.0 f.1, f.2)

abbrev pub line_more : (at : ℕ) (p : Bool) (text x : List ℕ) (i : Item) (cs : List Command) (place : ℕ) (out : Bool) (s : Spelled at text x i) → IsLineFault (at + length (text_of s.rows)) (p || is_promise i) x cs place out → IsLineFault at p text (commands_of (i ∷ []) ++ cs) place out
line_more at p text x i cs place out s f = record {
  rows = s.rows ++ f.rows;
  line = f.line;
  rest = f.rest;
  one_line = f.one_line;
  before = reaches_more at p text x s.rows f.rows (f.line ++ 10 ∷ f.rest) i cs s.text_is s.good s.said f.before;
  here = let h = f.here in omega (arith, h, ap length (text_of-append s.rows f.rows), length-append (text_of s.rows) (text_of f.rows));
  out = f.out;
  dead = λ o g.
      let bad : List ℕ = text_of f.rows ++ (f.line ++ 10 ∷ []) in
      let front : List ℕ = text_of f.rows ++ f.line in
      let y : List ℕ = front ++ 10 ∷ g.0 in
      let one : bad ++ g.0 ≡ y = ap (λ (t : List ℕ). t ++ g.0) (sym (append_assoc (text_of f.rows) f.line (10 ∷ []))) ∙ append_assoc front (10 ∷ []) g.0 in
      let whole : (text_of (s.rows ++ f.rows) ++ (f.line ++ 10 ∷ [])) ++ g.0 ≡ text_of s.rows ++ y =
      ap (λ (t : List ℕ). t ++ g.0) (sym (joined s.rows f.rows (f.line ++ 10 ∷ []))) ∙ append_assoc (text_of s.rows) bad g.0 ∙ ap (λ (t : List ℕ). text_of s.rows ++ t) one in
      let other : x ≡ front ++ 10 ∷ f.rest = f.before.spelled ∙ sym (append_assoc (text_of f.rows) f.line (10 ∷ f.rest)) in
      let good : AreRows s.rows y = rows-next s.rows (front ++ 10 ∷ f.rest) y (allows-line front f.rest g.0) (subst (AreRows s.rows) other s.good) in
      let ended : Ended (placed at s.rows) y = ended-next (placed at s.rows) front f.rest g.0 (subst (Ended (placed at s.rows)) other s.ended) in
      let r = strip at p s.rows y i g.1 good s.said ended (subst (λ (t : List ℕ). IsStream at p t g.1) whole g.2) in
      f.dead o (g.0, r.others, subst (λ (t : List ℕ). IsStream (at + length (text_of s.rows)) (p || is_promise i) t r.others) (sym one) r.stream);
}

no_bytes : (a b : List ℕ) → [] ≡ a ++ b → b ≡ []
no_bytes [] b e = sym e
no_bytes (c ∷ a) b e = absurd cc

nothing_in : Contains {X = ℕ} [] 10 → ⊥
nothing_in h = let l = h.1 in absurd (omega (arith, l))

pub inside_more : (at : ℕ) (p : Bool) (text x rest : List ℕ) (front : List ℕ) (i : Item) (rows : List Row) → text ≡ text_of rows ++ x → AreRows rows x → IsItem (placed at rows) i → x ≡ front ++ rest → (Contains rest 10 → ⊥) ⊎ BeginsStream (at + length (text_of rows)) (p || is_promise i) x → (Contains rest 10 → ⊥) ⊎ BeginsStream at p text
inside_more at p text x rest front i rows e good h f (inl n) = inl n
inside_more at p text [] rest front i rows e good h f (inr b) = inl (subst (λ (t : List ℕ). Contains t 10 → ⊥) (sym (no_bytes front rest f)) nothing_in)
inside_more at p text (c ∷ x) rest front i rows e good h f (inr b) =
    inr (
      b.0,
      commands_of (i ∷ []) ++ b.1,
      prepend at p (text ++ b.0) rows ((c ∷ x) ++ b.0) i b.1 (ap (λ (t : List ℕ). t ++ b.0) e ∙ append_assoc (text_of rows) (c ∷ x) b.0) (rows-next rows (c ∷ x) ((c ∷ x) ++ b.0) (λ k. k) good) h b.2,
    )

abbrev pub end_more : (at : ℕ) (p : Bool) (text x : List ℕ) (i : Item) (cs : List Command) (place : ℕ) (s : Spelled at text x i) → IsEndFault (at + length (text_of s.rows)) (p || is_promise i) x cs place → IsEndFault at p text (commands_of (i ∷ []) ++ cs) place
end_more at p text x i cs place s f = record {
  rows = s.rows ++ f.rows;
  rest = f.rest;
  before = reaches_more at p text x s.rows f.rows f.rest i cs s.text_is s.good s.said f.before;
  here = let h = f.here in omega (arith, h, ap length s.text_is, length-append (text_of s.rows) x);
  cut = f.cut;
  inside = inside_more at p text x f.rest (text_of f.rows) i s.rows s.text_is s.good s.said f.before.spelled f.inside;
  none = λ all t. let r = strip at p s.rows x i all s.good s.said s.ended (subst (λ (z : List ℕ). IsStream at p z all) s.text_is t) in f.none r.others r.stream;
}
