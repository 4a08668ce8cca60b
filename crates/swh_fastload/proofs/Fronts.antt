-- Whole commands with which a text starts come first in whatever the text is: before its first fault, before the first limit
-- that it passes, and among other whole commands with which it starts.
use Rattle.std.proofs.Common.{◌≡◌, ℕ, ◌+◌, ◌⊎◌, inl, inr, Bool, true, false, ◌||◌, if◌then◌else◌, List, [], ◌∷◌, ◌++◌, length, length-append, refl, sym, ap, ◌∙◌, subst, arith, append_assoc, codes}
use Rattle.std.proofs.lemmas.List.Elements.{filter_map-append}
use Rattle.swh_base.specs.declared.visit.Which.{Which}
use Rattle.swh_fastgrammar.specs.declared.command.Command.{Command}
use Rattle.swh_fastgrammar.specs.declared.fault.StreamWhy.{StreamWhy}
use Rattle.swh_fastgrammar.specs.declared.fault.StreamWhy.TheVariants.{Grammar, End, LeftOut, Mark, Branch, Place}
use Rattle.swh_fastgrammar.specs.Fault.{BeginsRows, IsUnfinished, Reaches}
use Rattle.swh_fastgrammar.specs.Grammar.{many, Item, IsItem, is_promise, command_of, commands_of}
use Rattle.swh_fastgrammar.specs.Grammar.Item.{Promise}
use Rattle.swh_fastgrammar.specs.Row.{Row, row_text, text_of, AreRows, Placed, placed, is_comment}
use Rattle.swh_fastgrammar.proofs.Before.{no_item_first, part_stop}
use Rattle.swh_fastgrammar.proofs.Faults.{append_nil, text_of-append, row_cut, row_line, passed}
use Rattle.swh_fastgrammar.proofs.Parts.{cons_cut}
use Rattle.swh_fastgrammar.proofs.Rows.{goes_on}
use Rattle.swh_fastgrammar.proofs.Splits.{split_items}
use Rattle.swh_fastgrammar.proofs.Streams.{items_stop, some_item, one_items}
use Rattle.swh_fastrows.specs.Outcome.{IsLineFaultWithin, IsEndFaultWithin, IsFaultWithin, PassesFirst, Starts, StartsAll, StartsWith}
use Rattle.swh_fastrows.specs.Places.{FirstLine, MayCount, Position}
use Rattle.swh_fastrows.specs.Within.{LineFits, Fits, AllFit}
use Rattle.swh_fastrows.proofs.Joins.{placed-append, fit-append}
use Rattle.swh_fastread.proofs.Afterwards.{fit_after, commands_cons}
use Rattle.swh_fastread.proofs.Onward.{first_item, one_item, reaches_more, rows_first}

-- The list begins with these.
abbrev pub BeginsWith : {X : Type 0} → List X → List X → Type 0
BeginsWith {X} front all = (more : List X) × (all ≡ front ++ more)

abbrev pub head_or : {X : Type 0} → X → List X → X
head_or x [] = x
head_or x (y ∷ ys) = y

abbrev pub tail_of : {X : Type 0} → List X → List X
tail_of [] = []
tail_of (y ∷ ys) = ys

empty_end : {X : Type 0} (xs ys : List X) → [] ≡ xs ++ ys → ys ≡ []
empty_end [] ys e = sym e
empty_end (x ∷ xs) ys e = absurd cc

-- all but the last of a list that begins with these and goes on
pub but_last : {X : Type 0} (front all more : List X) (x : X) → all ++ x ∷ [] ≡ front ++ more → (more ≡ [] → ⊥) → BeginsWith front all
but_last [] all more x e n = (all, refl)
but_last (a ∷ front) [] more x e n = absurd (n (empty_end front more (ap tail_of e)))
but_last {X} (a ∷ front) (b ∷ all) more x e n =
    let first : b ≡ a = ap (head_or x) e in
    let rest = but_last front all more x (ap tail_of e) n in
    (rest.0, ap (λ (c : X). c ∷ all) first ∙ ap (λ (cs : List X). a ∷ cs) rest.1)

many_last : (rows last : List Placed) (items : List Item) (item : Item) → many IsItem rows items → IsItem last item → many IsItem (rows ++ last) (items ++ item ∷ [])
many_last rows last [] item h k = subst (λ (r : List Placed). many IsItem (r ++ last) (item ∷ [])) (sym h) (one_item last item k)
many_last rows last (i ∷ items) item h k = (h.0, h.1 ++ last, ap (λ (r : List Placed). r ++ last) h.2 ∙ append_assoc h.0 h.1 last, h.3, many_last h.1 last items item h.4 k)

some_items : (p : Placed) (ps : List Placed) (items : List Item) → items ≡ [] → many IsItem (p ∷ ps) items → ⊥
some_items p ps [] n h = absurd cc
some_items p ps (item ∷ items) n h = absurd cc

-- Items of rows whose last ones are no whole item are those of the rows before.
whole_items : (whole part : List Placed) (items all : List Item) → many IsItem whole items → IsUnfinished part → many IsItem (whole ++ part) all → all ≡ items
whole_items whole part items all h u k = let cut = split_items whole part items all h (part_stop part u) k in on cut.0 cut.1 cut.2
  where
    on : (more : List Item) → all ≡ items ++ more → many IsItem part more → all ≡ items
    on [] e said = e ∙ append_nil items
    on (i ∷ more) e said = absurd (no_item_first part said.0 said.1 i u said.3 (items_stop said.1 more said.4) said.2)

-- no row begins an item, and is none
unfinished_none : IsUnfinished []
unfinished_none = record {
  more = record { at = 0; row = record { line = codes "feature done"; raw = [] } } ∷ [];
  item = Promise;
  begins = (0, [], refl, refl);
  none = λ i h. some_item [] [] i h refl;
}

-- before any row
reaches_none : (at : ℕ) (p : Bool) (text : List ℕ) → Reaches at p text [] text []
reaches_none at p text = record {
  spelled = refl;
  good = tt;
  may = record { more = []; ending = codes "done\n"; commands = []; whole = record { items = []; good = tt; said = refl; ends = inr ([], refl); these = refl } };
  whole = [];
  part = [];
  items = [];
  cut = refl;
  said = refl;
  unfinished = unfinished_none;
  these = refl;
}

-- Rows that go on from whole items are these items first.
abbrev GoesOn : List Item → List Placed → List Item → Type 0
GoesOn items rows all = (more : List Item) × (all ≡ items ++ more) × many IsItem rows more

behind_item : (item : Item) (items others all : List Item) (rows : List Placed) → all ≡ item ∷ others → GoesOn items rows others → GoesOn (item ∷ items) rows all
behind_item item items others all rows e h = (h.0, e ∙ ap (λ (is : List Item). item ∷ is) h.1, h.2)

-- The text starts with the rows of whole items; where the next line passes no limit, whatever rows go on from them are these
-- items first.
record Front (a b : Position) (items : List Item) : Type 0 where
  rows : List Row
  before : Reaches a.at a.promised a.left rows b.left (commands_of items)
  fit : AllFit a.at rows b.left
  said : many IsItem (placed a.at rows) items
  here : b.at ≡ a.at + length (text_of rows)
  splits : LineFits b.at b.left → (next : Placed) (more : List Placed) (all : List Item) → MayCount b.left next.row.line → many IsItem (placed a.at rows ++ next ∷ more) all → GoesOn items (next ∷ more) all

-- the next line of rows that pass no limit
first_fits : (at : ℕ) (rows : List Row) (rest : List ℕ) → AllFit at rows rest → LineFits (at + length (text_of rows)) rest → LineFits at (text_of rows ++ rest)
first_fits at [] rest h k = let same : at + length (text_of []) ≡ at = omega arith in subst (λ (n : ℕ). LineFits n rest) same k
first_fits at (r ∷ rows) rest h k = h.0.line

-- the same where some row counts
row_fits : (at : ℕ) (rows : List Row) (rest : List ℕ) (p : Placed) (ps : List Placed) → AllFit at rows rest → placed at rows ≡ p ∷ ps → LineFits at (text_of rows ++ rest)
row_fits at [] rest p ps h e = absurd cc
row_fits at (r ∷ rows) rest p ps h e = h.0.line

-- The first row that counts, of rows or of what follows them, may be the text's first line that counts.
first_counts : (at : ℕ) (rows : List Row) (rest : List ℕ) (next first : Placed) (ps qs : List Placed) → AreRows rows rest → MayCount rest next.row.line → placed at rows ++ next ∷ ps ≡ first ∷ qs → MayCount (text_of rows ++ rest) first.row.line
first_counts at [] rest next first ps qs a c e = subst (λ (p : Placed). MayCount rest p.row.line) (cons_cut next first ps qs e).0 c
first_counts at (r ∷ rows) rest next first ps qs a c e = which (is_comment r.line) refl e
  where
    line : FirstLine (text_of (r ∷ rows) ++ rest) r.line
    line = record { rest = r.raw ++ (text_of rows ++ rest); spelled = row_cut r rows rest; one_line = a.0.one_line }

    which : (b : Bool) → is_comment r.line ≡ b → (if b then placed (at + length (row_text r)) rows else record { at = at; row = r } ∷ placed (at + length (row_text r)) rows) ++ next ∷ ps ≡ first ∷ qs → MayCount (text_of (r ∷ rows) ++ rest) first.row.line
    which true f g = inr (r.line, line, f)
    which false f g = inl (subst (λ (p : Placed). FirstLine (text_of (r ∷ rows) ++ rest) p.row.line) (cons_cut (record { at = at; row = r }) first (placed (at + length (row_text r)) rows ++ next ∷ ps) qs g).0 line)

no_front : (a : Position) → Front a a []
no_front a = record {
  rows = [];
  before = reaches_none a.at a.promised a.left;
  fit = tt;
  said = refl;
  here = omega arith;
  splits = λ fits next more all counts said. (all, refl, said);
}

-- an item in front of whole items
module _ (a m b : Position) (item : Item) (items : List Item) (s : Starts a m item) (f : Front m b items) where
  cut : placed a.at (s.rows ++ f.rows) ≡ placed a.at s.rows ++ placed m.at f.rows
  cut = placed-append a.at s.rows f.rows ∙ ap (λ (n : ℕ). placed a.at s.rows ++ placed n f.rows) (sym s.here)

  splits_more : LineFits b.at b.left → (next : Placed) (more : List Placed) (all : List Item) → MayCount b.left next.row.line → many IsItem (placed a.at (s.rows ++ f.rows) ++ next ∷ more) all → GoesOn (item ∷ items) (next ∷ more) all
  splits_more fits next more all counts said =
      let line : LineFits m.at m.left = subst (LineFits m.at) (sym f.before.spelled) (first_fits m.at f.rows b.left f.fit (subst (λ (n : ℕ). LineFits n b.left) f.here fits)) in
      let rows : many IsItem (placed a.at s.rows ++ (placed m.at f.rows ++ next ∷ more)) all = subst (λ (r : List Placed). many IsItem r all) (ap (λ (r : List Placed). r ++ next ∷ more) cut ∙ append_assoc (placed a.at s.rows) (placed m.at f.rows) (next ∷ more)) said in
      let one = first_item (placed a.at s.rows) (placed m.at f.rows ++ next ∷ more) item all s.said
      (λ p ps back other e h. s.ended line p ps other (subst (λ (t : List ℕ). MayCount t p.row.line) (sym f.before.spelled) (first_counts m.at f.rows b.left next p more (ps ++ back) f.before.good counts e)) h) rows in
      let others = f.splits fits next more one.0 counts one.2 in
      behind_item item items one.0 all (next ∷ more) one.1 others

  more_front : Front a b (item ∷ items)
  more_front =
      let n : ℕ = a.at + length (text_of s.rows) in
      let first = s.here in
      let second = f.here in
      let after : Reaches n (a.promised || is_promise item) m.left f.rows b.left (commands_of items) =
      subst (λ (k : ℕ). Reaches k (a.promised || is_promise item) m.left f.rows b.left (commands_of items)) s.here (subst (λ (q : Bool). Reaches m.at q m.left f.rows b.left (commands_of items)) s.promised f.before) in
      record {
        rows = s.rows ++ f.rows;
        before = subst (Reaches a.at a.promised a.left (s.rows ++ f.rows) b.left) (sym (commands_cons item items)) (reaches_more a.at a.promised a.left m.left s.rows f.rows b.left item (commands_of items) s.spelled s.good s.said after);
        fit = fit-append a.at s.rows f.rows b.left (subst (AllFit a.at s.rows) f.before.spelled s.fit) (subst (λ (k : ℕ). AllFit k f.rows b.left) s.here f.fit);
        said = (placed a.at s.rows, placed m.at f.rows, cut, s.said, f.said);
        here = omega (arith, first, second, ap length (text_of-append s.rows f.rows), length-append (text_of s.rows) (text_of f.rows));
        splits = splits_more;
      }

front_of : (a b : Position) (items : List Item) → StartsAll a b items → Front a b items
front_of a b [] e = subst (λ (x : Position). Front a x []) e (no_front a)
front_of a b (item ∷ items) s = more_front a s.0 b item items s.1 (front_of s.0 b items s.2)

-- The text reaches a place after these whole commands; no row that fits follows there with which some stream begins.
record Bounds (at : ℕ) (promised : Bool) (text : List ℕ) (commands : List Command) : Type 0 where
  rows : List Row
  rest : List ℕ
  before : Reaches at promised text rows rest commands
  fit : AllFit at rows rest
  last : (r : Row) (more : List Row) (next : List ℕ) → rest ≡ text_of (r ∷ more) ++ next → AreRows (r ∷ more) next → BeginsRows at promised (rows ++ r ∷ more) → Fits (at + length (text_of rows)) rest → ⊥

line_bounds : (at : ℕ) (p : Bool) (text : List ℕ) (cs : List Command) (place : ℕ) (out : Bool) → IsLineFaultWithin at p text cs place out → Bounds at p text cs
line_bounds at p text cs place out w = record {
  rows = w.fault.rows;
  rest = w.fault.line ++ 10 ∷ w.fault.rest;
  before = w.fault.before;
  fit = w.fit;
  last = λ r more next e a b fits. passed at p text cs place out w.fault r more b (row_line r more w.fault.line w.fault.rest next w.fault.one_line a e);
}

end_bounds : (at : ℕ) (p : Bool) (text : List ℕ) (cs : List Command) (place : ℕ) → IsEndFaultWithin at p text cs place → Bounds at p text cs
end_bounds at p text cs place w = record {
  rows = w.fault.rows;
  rest = w.fault.rest;
  before = w.fault.before;
  fit = w.fit;
  last = λ r more next e a b fits. w.fault.cut r (text_of more ++ next) (e ∙ append_assoc (row_text r) (text_of more) next) a.0;
}

fault_bounds : (at : ℕ) (p : Bool) (text : List ℕ) (cs : List Command) (place : ℕ) (why : StreamWhy) → IsFaultWithin at p text cs place why → Bounds at p text cs
fault_bounds at p text cs place Grammar f = line_bounds at p text cs place false f
fault_bounds at p text cs place LeftOut f = line_bounds at p text cs place true f
fault_bounds at p text cs place End f = end_bounds at p text cs place f
fault_bounds at p text cs place Mark f = absurd f
fault_bounds at p text cs place Branch f = absurd f
fault_bounds at p text cs place Place f = absurd f

limit_bounds : (at : ℕ) (p : Bool) (text : List ℕ) (cs : List Command) (which : Which) (number : ℕ) → PassesFirst at p text cs which number → Bounds at p text cs
limit_bounds at p text cs which number g = record {
  rows = g.rows;
  rest = g.rest;
  before = g.before;
  fit = g.fit;
  last = λ r more next e a b fits. elim g.passes [
    | inl l ↦ fits.line which number l
    | inr d ↦ fits.inside which number d.0
  ];
}

-- Rows that go on from whole items with which the text starts; the next line is one of them.
module _ (a b : Position) (items : List Item) (f : Front a b items) (rows more : List Row) (rest : List ℕ) (e : rows ≡ f.rows ++ more) (t : b.left ≡ text_of more ++ rest) (good : AreRows more rest) (fit : AllFit a.at rows rest) where
  divided : placed a.at rows ≡ placed a.at f.rows ++ placed b.at more
  divided = ap (placed a.at) e ∙ placed-append a.at f.rows more ∙ ap (λ (n : ℕ). placed a.at f.rows ++ placed n more) (sym f.here)

  splits_rows : (p : Placed) (ps qs : List Placed) (all : List Item) → placed b.at more ≡ p ∷ ps → many IsItem (placed a.at rows ++ qs) all → GoesOn items (p ∷ (ps ++ qs)) all
  splits_rows p ps qs all g said =
      let after : AllFit b.at more rest = subst (λ (n : ℕ). AllFit n more rest) (sym f.here) (fit_after a.at f.rows more rest (subst (λ (r : List Row). AllFit a.at r rest) e fit)) in
      let line : LineFits b.at b.left = subst (LineFits b.at) (sym t) (row_fits b.at more rest p ps after g) in
      let counts : MayCount b.left p.row.line = subst (λ (x : List ℕ). MayCount x p.row.line) (sym t) (rows_first b.at more rest good p ps g) in
      let cut : placed a.at rows ++ qs ≡ placed a.at f.rows ++ p ∷ (ps ++ qs) =
      ap (λ (r : List Placed). r ++ qs) (divided ∙ ap (λ (r : List Placed). placed a.at f.rows ++ r) g) ∙ append_assoc (placed a.at f.rows) (p ∷ ps) qs in
      f.splits line p (ps ++ qs) all counts (subst (λ (r : List Placed). many IsItem r all) cut said)

  none_more : placed b.at more ≡ [] → placed a.at rows ≡ placed a.at f.rows
  none_more g = divided ∙ ap (λ (r : List Placed). placed a.at f.rows ++ r) g ∙ append_nil (placed a.at f.rows)

  -- other whole items of these rows
  leads_items : (others : List Item) → many IsItem (placed a.at rows) others → BeginsWith items others
  leads_items others said = by (placed b.at more) refl
    where
      by : (ps : List Placed) → placed b.at more ≡ ps → BeginsWith items others
      by [] g = let same = one_items (placed a.at f.rows) items others f.said (subst (λ (r : List Placed). many IsItem r others) (none_more g) said) in ([], sym (append_nil items ∙ same))
      by (p ∷ ps) g = let on = splits_rows p ps [] others g (subst (λ (r : List Placed). many IsItem r others) (sym (append_nil (placed a.at rows))) said) in (on.0, on.1)

  -- whole items of these rows before an item that is cut off
  leads_reach : (text : List ℕ) (cs : List Command) (r : Reaches a.at a.promised text rows rest cs) → BeginsWith items r.items
  leads_reach text cs r = by (placed b.at more) refl
    where
      by : (ps : List Placed) → placed b.at more ≡ ps → BeginsWith items r.items
      by [] g =
          let same = whole_items r.whole r.part r.items items r.said r.unfinished (subst (λ (x : List Placed). many IsItem x items) (sym (none_more g) ∙ r.cut) f.said) in
          ([], sym (append_nil items ∙ same))
      by (p ∷ ps) g =
          let u = r.unfinished in
          let cut : r.whole ++ (r.part ++ u.more) ≡ placed a.at rows ++ u.more = sym (append_assoc r.whole r.part u.more) ∙ ap (λ (x : List Placed). x ++ u.more) (sym r.cut) in
          let said : many IsItem (placed a.at rows ++ u.more) (r.items ++ u.item ∷ []) = subst (λ (x : List Placed). many IsItem x (r.items ++ u.item ∷ [])) cut (many_last r.whole (r.part ++ u.more) r.items u.item r.said u.begins) in
          let on = splits_rows p ps u.more (r.items ++ u.item ∷ []) g said in
          but_last items r.items on.0 u.item on.1 (λ n. some_items p (ps ++ u.more) on.0 n on.2)

commands_begin : (items others : List Item) → BeginsWith items others → BeginsWith (commands_of items) (commands_of others)
commands_begin items others h = (commands_of h.0, ap commands_of h.1 ∙ filter_map-append command_of items h.0)

front_first : (a b : Position) (items : List Item) (cs : List Command) → Front a b items → Bounds a.at a.promised a.left cs → BeginsWith (commands_of items) cs
front_first a b items cs f g =
    elim (goes_on f.rows g.rows b.left g.rest f.before.good g.before.good (sym f.before.spelled ∙ g.before.spelled)) [
      | inl h ↦
          let on = commands_begin items g.before.items (leads_reach a b items f g.rows h.0 g.rest h.1 h.2 h.3 g.fit a.left cs g.before) in
          (on.0, g.before.these ∙ on.1)
      | inr h ↦ absurd (past h.0 h.1 h.2 h.3 h.4)
    ]
  where
    past : (r : Row) (more : List Row) → f.rows ≡ g.rows ++ r ∷ more → g.rest ≡ text_of (r ∷ more) ++ b.left → AreRows (r ∷ more) b.left → ⊥
    past r more e t good =
        let fits = fit_after a.at g.rows (r ∷ more) b.left (subst (λ (x : List Row). AllFit a.at x b.left) e f.fit) in
        g.last r more b.left t good (subst (BeginsRows a.at a.promised) e f.before.may) (subst (Fits (a.at + length (text_of g.rows))) (sym t) fits.0)

-- Whole commands with which the text starts are first among those before a bound.
start_first : (a b : Position) (front cs : List Command) → StartsWith a b front → Bounds a.at a.promised a.left cs → BeginsWith front cs
start_first a b front cs s g = subst (λ (x : List Command). BeginsWith x cs) (sym s.these) (front_first a b s.items cs (front_of a b s.items s.starts) g)

-- Whole commands with which the text starts are first among those before its first fault,
pub fault_after_start : (a b : Position) (front cs : List Command) (place : ℕ) (why : StreamWhy) → StartsWith a b front → IsFaultWithin a.at a.promised a.left cs place why → BeginsWith front cs
fault_after_start a b front cs place why s f = start_first a b front cs s (fault_bounds a.at a.promised a.left cs place why f)

-- and before the first limit that it passes;
pub limit_after_start : (a b : Position) (front cs : List Command) (which : Which) (number : ℕ) → StartsWith a b front → PassesFirst a.at a.promised a.left cs which number → BeginsWith front cs
limit_after_start a b front cs which number s g = start_first a b front cs s (limit_bounds a.at a.promised a.left cs which number g)

-- of two fronts of whole commands with which it starts one begins with the other.
pub two_starts : (a b c : Position) (cs ds : List Command) → StartsWith a b cs → StartsWith a c ds → BeginsWith cs ds ⊎ BeginsWith ds cs
two_starts a b c cs ds s t =
    let f = front_of a b s.items s.starts in
    let g = front_of a c t.items t.starts in
    let these : BeginsWith (commands_of s.items) (commands_of t.items) ⊎ BeginsWith (commands_of t.items) (commands_of s.items) =
    elim (goes_on f.rows g.rows b.left c.left f.before.good g.before.good (sym f.before.spelled ∙ g.before.spelled)) [
      | inl h ↦ inl (commands_begin s.items t.items (leads_items a b s.items f g.rows h.0 c.left h.1 h.2 h.3 g.fit t.items g.said))
      | inr h ↦ inr (commands_begin t.items s.items (leads_items a c t.items g f.rows (h.0 ∷ h.1) b.left h.2 h.3 h.4 f.fit s.items f.said))
    ] in
    elim these [
      | inl h ↦ inl (h.0, t.these ∙ h.1 ∙ ap (λ (x : List Command). x ++ h.0) (sym s.these))
      | inr h ↦ inr (h.0, s.these ∙ h.1 ∙ ap (λ (x : List Command). x ++ h.0) (sym t.these))
    ]
