-- The faults after rows that begin an item, or after none.
use Rattle.std.proofs.Common.{◌≡◌, ℕ, ◌+◌, ◌⊎◌, inl, inr, Bool, true, false, ◌||◌, List, [], ◌∷◌, ◌++◌, length, Contains, refl, sym, ap, ◌∙◌, subst, arith, append_assoc, codes}
use Rattle.std.specs.List.{list_any}
use Rattle.swh_base.proofs.Splits.{first_split, absent, not_nil}
use Rattle.swh_fastgrammar.specs.declared.command.Command.{Command}
use Rattle.swh_fastgrammar.specs.Fault.{BeginsStream, BeginsRows, is_left_out, IsUnfinished, Reaches, IsLineFault, IsEndFault}
use Rattle.swh_fastgrammar.specs.Grammar.{many, Item, IsItem, is_promise, commands_of, IsStream}
use Rattle.swh_base.specs.declared.visit.Which.{Which}
use Rattle.swh_fastrows.specs.Outcome.{IsLineFaultWithin, IsEndFaultWithin, DataMayCome, PassesFirst}
use Rattle.swh_fastrows.specs.Places.{ReaderState, left, Took}
use Rattle.swh_fastrows.specs.Within.{FirstLine, LinePasses, DataPasses, LineFits, Fits, AllFit}
use Rattle.swh_fastgrammar.specs.Row.{Row, row_text, text_of, begins_with, IsData, Opens, IsRow, AreRows, Placed, placed, is_comment}
use Rattle.swh_fastgrammar.proofs.Before.{no_item_first}
use Rattle.swh_fastgrammar.proofs.Faults.{append_nil, row_cut}
use Rattle.swh_fastgrammar.proofs.Kept.{AllKept, item_keeps}
use Rattle.swh_fastgrammar.proofs.Parts.{cons_cut}
use Rattle.swh_fastgrammar.proofs.Rows.{goes_on}
use Rattle.swh_fastgrammar.proofs.Streams.{Stops, items_stop}
use Rattle.swh_fastrows.proofs.Joins.{plain, plain_row, placed-append, placed_row, rows-append, joined, rows-next, allows-line, fronts, took_size}
use Rattle.swh_fastrows.proofs.Fitting.{in_middle}
use Rattle.swh_fastread.proofs.Onward.{one_item, stops_inside}

-- rows that go on from a part, and make an item with it
pub record Completion (part : List Placed) (n : ℕ) : Type 0 where
  pub more : List Row
  pub item : Item
  pub is_item : IsItem (part ++ placed n more) item
  pub good : AreRows more (codes "done\n")
  pub no_feed : begins_with 10 (text_of more ++ codes "done\n") ≡ false

-- The part is no item, and rows at any place make one of it.
pub record Unfinished (part : List Placed) : Type 0 where
  pub complete : (n : ℕ) → Completion part n
  pub none : (i : Item) → IsItem part i → ⊥

pub is_unfinished : (part : List Placed) → Unfinished part → IsUnfinished part
is_unfinished part u = let c = u.complete 0 in record { more = placed 0 c.more; item = c.item; begins = c.is_item; none = u.none }

pub kept_front : (a b : List Placed) → AllKept (a ++ b) → AllKept a
kept_front [] b h = tt
kept_front (p ∷ a) b h = (h.0, kept_front a b h.1)

pub kept_part : (part : List Placed) → Unfinished part → AllKept part
kept_part part u = let c = u.complete 0 in kept_front part (placed 0 c.more) (item_keeps (part ++ placed 0 c.more) c.item c.is_item)

begins_rows : (at : ℕ) (p : Bool) (rows : List Row) (x : List ℕ) → AreRows rows x → Unfinished (placed at rows) → BeginsRows at p rows
begins_rows at p rows x good u =
    let n : ℕ = at + length (text_of rows) in
    let c = u.complete n in
    let item : IsItem (placed at (rows ++ c.more)) c.item = subst (λ (z : List Placed). IsItem z c.item) (sym (placed-append at rows c.more)) c.is_item in
    record {
      more = c.more;
      ending = codes "done\n";
      commands = commands_of (c.item ∷ []);
      whole = record {
        items = c.item ∷ [];
        good = rows-append rows c.more (codes "done\n") (rows-next rows x (text_of c.more ++ codes "done\n") (λ _. c.no_feed) good) c.good;
        said = one_item (placed at (rows ++ c.more)) c.item item;
        ends = inr ([], refl);
        these = refl;
      };
    }

pub reached : (at : ℕ) (p : Bool) (text : List ℕ) (rows : List Row) (rest : List ℕ) → text ≡ text_of rows ++ rest → AreRows rows rest → Unfinished (placed at rows) → Reaches at p text rows rest []
reached at p text rows rest e good u = record {
  spelled = e;
  good = good;
  may = begins_rows at p rows rest good u;
  whole = [];
  part = placed at rows;
  items = [];
  cut = refl;
  said = refl;
  unfinished = is_unfinished (placed at rows) u;
  these = refl;
}

pub both_nil : (a b : List Placed) → a ++ b ≡ [] → (a ≡ []) × (b ≡ [])
both_nil [] b e = (refl, e)
both_nil (p ∷ a) b e = absurd cc

stops_front : (z w : List Placed) → Stops (z ++ w) → Stops z
stops_front [] w h = tt
stops_front (p ∷ z) w h = h

-- Rows that begin with an unfinished part are no items, unless there are none.
pub no_first : (part rest : List Placed) (items : List Item) → Unfinished part → ((q : Placed) (m back : List Placed) (j : Item) → rest ≡ q ∷ (m ++ back) → IsItem (part ++ q ∷ m) j → ⊥) → many IsItem (part ++ rest) items → (part ≡ []) × (rest ≡ [])
no_first part rest [] u stop s = both_nil part rest s
no_first part rest (j ∷ js) u stop s =
    elim (fronts s.0 s.1 part rest (sym s.2)) [
      | inl f ↦ absurd (no_item_first part s.0 f.0 j (is_unfinished part u) s.3 (stops_front f.0 rest (subst Stops f.2 (items_stop s.1 js s.4))) f.1)
      | inr f ↦ absurd (stop f.0 f.1 s.1 j f.3 (subst (λ (x : List Placed). IsItem x j) f.2 s.3))
    ]

-- no item goes on with this line
abbrev pub Dead : List Placed → List ℕ → Type 0
Dead part line = (q : Placed) (more : List Placed) (j : Item) → q.row.line ≡ line → IsItem (part ++ q ∷ more) j → ⊥

-- no stream goes on with the line
pub dead_line : (at : ℕ) (p : Bool) (rows : List Row) (line rest g : List ℕ) (cs : List Command) → AreRows rows (line ++ 10 ∷ rest) → (Contains line 10 → ⊥) → is_comment line ≡ false → Unfinished (placed at rows) → (placed at rows ≡ [] → line ≡ codes "done" → ⊥) → Dead (placed at rows) line → IsStream at p (text_of rows ++ (line ++ 10 ∷ g)) cs → ⊥
dead_line at p rows line rest g cs good one counts u no_end dead s =
    let x : List ℕ = line ++ 10 ∷ g in
    elim (goes_on rows s.rows x s.ending (rows-next rows (line ++ 10 ∷ rest) x (allows-line line rest g) good) s.whole.good s.spelled) [
      | inl h ↦ on h.0 h.1 h.2 h.3
      | inr h ↦ stops_inside at rows s.rows h.0 h.1 x s.ending (p || list_any is_promise s.whole.items) h.2 h.3 h.4 (kept_part (placed at rows) u) s.whole.ends
    ]
  where
    ended : (part : List Placed) → many IsItem part s.whole.items → Unfinished part → part ≡ []
    ended part h v = (no_first part [] s.whole.items v (λ q m back j f k. absurd cc) (subst (λ (z : List Placed). many IsItem z s.whole.items) (sym (append_nil part)) h)).0

    on : (more : List Row) → s.rows ≡ rows ++ more → line ++ 10 ∷ g ≡ text_of more ++ s.ending → AreRows more s.ending → ⊥
    on [] e t a =
        let none = ended (placed at rows) (subst (λ (z : List Row). many IsItem (placed at z) s.whole.items) (e ∙ append_nil rows) s.whole.said) u in
        elim s.whole.ends [
          | inl n ↦ not_nil line g 10 (t ∙ n.0)
          | inr n ↦ no_end none (first_split 10 line (codes "done") g n.0 one (absent 10 (codes "done") refl) (t ∙ n.1)).0
        ]
    on (r ∷ m) e t a =
        let same : r.line ≡ line = sym (first_split 10 line r.line g (r.raw ++ (text_of m ++ s.ending)) one a.0.one_line (t ∙ row_cut r m s.ending)).0 in
        let n : ℕ = at + length (text_of rows) in
        let q : Placed = record { at = n; row = r } in
        let others : List Placed = placed (n + length (row_text r)) m in
        let cut : placed at s.rows ≡ placed at rows ++ q ∷ others = ap (placed at) e ∙ placed-append at rows (r ∷ m) ∙ ap (λ (z : List Placed). placed at rows ++ z) (placed_row n r m (ap is_comment same ∙ counts)) in
        let none = (no_first (placed at rows) (q ∷ others) s.whole.items u (λ y k back j f h. dead y k j (ap (λ (z : Placed). z.row.line) (sym (cons_cut q y others (k ++ back) f).0) ∙ same) h) (subst (λ (z : List Placed). many IsItem z s.whole.items) cut s.whole.said)).1 in
        absurd cc

abbrev pub line_fault : (a b : ReaderState) (p : Bool) (part : List Placed) (line rest : List ℕ) (out : Bool) → Took a b part → left b ≡ line ++ 10 ∷ rest → (Contains line 10 → ⊥) → is_comment line ≡ false → is_left_out line ≡ out → Unfinished part → (part ≡ [] → line ≡ codes "done" → ⊥) → Dead part line → IsLineFault a.at p (left a) [] b.at out
line_fault a b p part line rest out t e one counts o u no_end dead =
    let good : AreRows t.rows (line ++ 10 ∷ rest) = subst (AreRows t.rows) e t.good in
    let v : Unfinished (placed a.at t.rows) = subst Unfinished (sym t.those) u in
    record {
      rows = t.rows;
      line = line;
      rest = rest;
      one_line = one;
      before = reached a.at p (left a) t.rows (line ++ 10 ∷ rest) (t.spelled ∙ ap (λ (z : List ℕ). text_of t.rows ++ z) e) good v;
      here = t.here;
      out = o;
      dead = λ _ g.
          let whole : (text_of t.rows ++ (line ++ 10 ∷ [])) ++ g.0 ≡ text_of t.rows ++ (line ++ 10 ∷ g.0) = append_assoc (text_of t.rows) (line ++ 10 ∷ []) g.0 ∙ ap (λ (z : List ℕ). text_of t.rows ++ z) (append_assoc line (10 ∷ []) g.0) in
          dead_line a.at p t.rows line rest g.0 g.1 good one counts v (λ n. no_end (sym t.those ∙ n)) (subst (λ (z : List Placed). Dead z line) (sym t.those) dead) (subst (λ (z : List ℕ). IsStream a.at p z g.1) whole g.2);
    }

abbrev first : List ℕ → ℕ
first [] = 0
first (c ∷ t) = c

abbrev second : List ℕ → ℕ
second [] = 0
second (c ∷ t) = first t

pub done_closed : Opens (codes "done") → ⊥
done_closed (raw, bytes, after, inl d) = let n : 111 ≡ 97 = ap second d.line in omega (arith, n)
done_closed (raw, bytes, after, inr d) = let n : 111 ≡ 97 = ap second d.line in omega (arith, n)

pub done_row : (next : List ℕ) → IsRow (plain (codes "done")) next
done_row next = plain_row (codes "done") next (absent 10 (codes "done") refl) done_closed

pub no_false : (p b : Bool) → p ≡ true → p || b ≡ false → ⊥
no_false true b e f = cc
no_false false b e f = cc

abbrev pub end_fault : (a b : ReaderState) (p : Bool) (part : List Placed) → Took a b part → Unfinished part → ((row : Row) (next : List ℕ) → left b ≡ row_text row ++ next → IsRow row next → ⊥) → (Contains (left b) 10 → ⊥) ⊎ BeginsStream a.at p (left a) → (part ≡ [] → left b ≡ [] → p ≡ true) → IsEndFault a.at p (left a) [] (b.at + length (left b))
end_fault a b p part t u cut inside promised = record {
  rows = t.rows;
  rest = left b;
  before = reached a.at p (left a) t.rows (left b) t.spelled t.good v;
  here = sym (took_size a b part t);
  cut = cut;
  inside = inside;
  none = none;
}
  where
    v : Unfinished (placed a.at t.rows)
    v = subst Unfinished (sym t.those) u

    none : (cs : List Command) → IsStream a.at p (left a) cs → ⊥
    none cs s = elim (goes_on t.rows s.rows (left b) s.ending t.good s.whole.good (sym t.spelled ∙ s.spelled)) [
      | inl h ↦ on h.0 h.1 h.2 h.3
      | inr h ↦ stops_inside a.at t.rows s.rows h.0 h.1 (left b) s.ending (p || list_any is_promise s.whole.items) h.2 h.3 h.4 (kept_part (placed a.at t.rows) v) s.whole.ends
    ]
      where
        on : (more : List Row) → s.rows ≡ t.rows ++ more → left b ≡ text_of more ++ s.ending → AreRows more s.ending → ⊥
        on [] e f g =
            let said : many IsItem (placed a.at t.rows ++ []) s.whole.items = subst (λ (z : List Placed). many IsItem z s.whole.items) (ap (placed a.at) (e ∙ append_nil t.rows) ∙ sym (append_nil (placed a.at t.rows))) s.whole.said in
            let empty = (no_first (placed a.at t.rows) [] s.whole.items v (λ q m back j y k. absurd cc) said).0 in
            elim s.whole.ends [
              | inl n ↦ no_false p (list_any is_promise s.whole.items) (promised (sym t.those ∙ empty) (f ∙ n.0)) n.1
              | inr n ↦ cut (plain (codes "done")) n.0 (f ∙ n.1) (done_row n.0)
            ]
        on (r ∷ m) e f g = cut r (text_of m ++ s.ending) (f ∙ append_assoc (row_text r) (text_of m) s.ending) g.0

-- bytes without LF begin no row
pub no_row : (rest : List ℕ) → (Contains rest 10 → ⊥) → (row : Row) (next : List ℕ) → rest ≡ row_text row ++ next → IsRow row next → ⊥
no_row rest none row next e h = none (subst (λ (t : List ℕ). Contains t 10) (sym (e ∙ append_assoc row.line (10 ∷ row.raw) next)) (in_middle row.line (row.raw ++ next)))

-- The fault of a line within the limits, after rows that pass none.
pub line_within : (a b : ReaderState) (p : Bool) (part : List Placed) (line rest : List ℕ) (out : Bool) → Took a b part → left b ≡ line ++ 10 ∷ rest → (Contains line 10 → ⊥) → is_comment line ≡ false → is_left_out line ≡ out → Unfinished part → (part ≡ [] → line ≡ codes "done" → ⊥) → Dead part line → LineFits b.at (left b) → IsLineFaultWithin a.at p (left a) [] b.at out
line_within a b p part line rest out t e one counts o u no_end dead fits = record {
  fault = line_fault a b p part line rest out t e one counts o u no_end dead;
  fit = subst (AllFit a.at t.rows) e t.fit;
  line_fits = subst (λ (n : ℕ). LineFits n (line ++ 10 ∷ rest)) t.here (subst (LineFits b.at) e fits);
}

pub end_within : (a b : ReaderState) (p : Bool) (part : List Placed) → Took a b part → Unfinished part → ((row : Row) (next : List ℕ) → left b ≡ row_text row ++ next → IsRow row next → ⊥) → (Contains (left b) 10 → ⊥) ⊎ BeginsStream a.at p (left a) → (part ≡ [] → left b ≡ [] → p ≡ true) → Fits b.at (left b) → IsEndFaultWithin a.at p (left a) [] (b.at + length (left b))
end_within a b p part t u cut inside promised fits = record {
  fault = end_fault a b p part t u cut inside promised;
  fit = t.fit;
  end_fits = subst (λ (n : ℕ). Fits n (left b)) t.here fits;
}

-- A limit that is passed after rows that pass none and begin an item, or after none.
pub limit_first : (a b : ReaderState) (p : Bool) (part : List Placed) (which : Which) (number : ℕ) (t : Took a b part) → Unfinished part → LinePasses b.at (left b) which number ⊎ (DataPasses b.at (left b) which number × DataMayCome a.at p t.rows (left b)) → PassesFirst a.at p (left a) [] which number
limit_first a b p part which number t u passes = record {
  rows = t.rows;
  rest = left b;
  before = reached a.at p (left a) t.rows (left b) t.spelled t.good (subst Unfinished (sym t.those) u);
  fit = t.fit;
  passes = elim passes [
    | inl l ↦ inl (subst (λ (n : ℕ). LinePasses n (left b) which number) t.here l)
    | inr d ↦ inr (subst (λ (n : ℕ). DataPasses n (left b) which number) t.here d.0, d.1)
  ];
}

-- A stream begins with rows and data that are cut off, where they would end an item.
pub filled_rows : (at : ℕ) (p : Bool) (rows : List Row) (part : List Placed) (line next more bytes : List ℕ) → AreRows rows (line ++ 10 ∷ next) → placed at rows ≡ part → (Contains line 10 → ⊥) → is_comment line ≡ false → IsData (record { line = line; raw = next ++ more }) bytes (codes "done\n") → (i : Item) → IsItem (part ++ record { at = at + length (text_of rows); row = record { line = line; raw = next ++ more } } ∷ []) i → BeginsStream at p (text_of rows ++ (line ++ 10 ∷ next))
filled_rows at p rows part line next more bytes good those one counts d i h =
    let row : Row = record { line = line; raw = next ++ more } in
    let n : ℕ = at + length (text_of rows) in
    let q : Placed = record { at = n; row = row } in
    let is_row : IsRow row (codes "done\n") = record { one_line = one; after = inl (bytes, d) } in
    let end : text_of (row ∷ []) ++ codes "done\n" ≡ line ++ 10 ∷ ((next ++ more) ++ codes "done\n") = row_cut row [] (codes "done\n") in
    let front : AreRows rows (text_of (row ∷ []) ++ codes "done\n") = subst (AreRows rows) (sym end) (rows-next rows (line ++ 10 ∷ next) (line ++ 10 ∷ ((next ++ more) ++ codes "done\n")) (allows-line line next ((next ++ more) ++ codes "done\n")) good) in
    let tokens : placed at (rows ++ row ∷ []) ≡ part ++ q ∷ [] = placed-append at rows (row ∷ []) ∙ ap (λ (z : List Placed). z ++ placed n (row ∷ [])) those ∙ ap (λ (z : List Placed). part ++ z) (placed_row n row [] counts) in
    let text : (text_of rows ++ (line ++ 10 ∷ next)) ++ (more ++ codes "done\n") ≡ text_of rows ++ (line ++ 10 ∷ ((next ++ more) ++ codes "done\n")) =
    append_assoc (text_of rows) (line ++ 10 ∷ next) (more ++ codes "done\n") ∙ ap (λ (z : List ℕ). text_of rows ++ z) (append_assoc line (10 ∷ next) (more ++ codes "done\n") ∙ ap (λ (z : List ℕ). line ++ 10 ∷ z) (sym (append_assoc next more (codes "done\n")))) in (
      more ++ codes "done\n",
      commands_of (i ∷ []),
      record {
        rows = rows ++ row ∷ [];
        ending = codes "done\n";
        spelled = text ∙ ap (λ (z : List ℕ). text_of rows ++ z) (sym end) ∙ joined rows (row ∷ []) (codes "done\n");
        whole = record {
          items = i ∷ [];
          good = rows-append rows (row ∷ []) (codes "done\n") front (is_row, tt);
          said = subst (λ (z : List Placed). many IsItem z (i ∷ [])) (sym tokens) (one_item (part ++ q ∷ []) i h);
          ends = inr ([], refl);
          these = refl;
        };
      },
    )

pub filled_stream : (a b : ReaderState) (p : Bool) (part : List Placed) (line next more bytes : List ℕ) → Took a b part → left b ≡ line ++ 10 ∷ next → (Contains line 10 → ⊥) → is_comment line ≡ false → IsData (record { line = line; raw = next ++ more }) bytes (codes "done\n") → (i : Item) → IsItem (part ++ record { at = b.at; row = record { line = line; raw = next ++ more } } ∷ []) i → BeginsStream a.at p (left a)
filled_stream a b p part line next more bytes t e one counts d i h =
    subst (BeginsStream a.at p) (sym (t.spelled ∙ ap (λ (z : List ℕ). text_of t.rows ++ z) e))
    (filled_rows a.at p t.rows part line next more bytes (subst (AreRows t.rows) e t.good) t.those one counts d i (subst (λ (n : ℕ). IsItem (part ++ record { at = n; row = record { line = line; raw = next ++ more } } ∷ []) i) t.here h))

-- Data may come where they would end an item.
pub data_may_come : (a b : ReaderState) (p : Bool) (part : List Placed) (line raw bytes : List ℕ) (t : Took a b part) → FirstLine (left b) line → is_comment line ≡ false → IsData (record { line = line; raw = raw }) bytes (codes "done\n") → (i : Item) → IsItem (part ++ record { at = b.at; row = record { line = line; raw = raw } } ∷ []) i → DataMayCome a.at p t.rows (left b)
data_may_come a b p part line raw bytes t f counts d i h =
    let good : AreRows t.rows (line ++ 10 ∷ []) = rows-next t.rows (line ++ 10 ∷ f.rest) (line ++ 10 ∷ []) (allows-line line f.rest []) (subst (AreRows t.rows) f.spelled t.good) in
    record {
      line = line;
      first = f;
      begins = filled_rows a.at p t.rows part line [] raw bytes good t.those f.one_line counts d i (subst (λ (n : ℕ). IsItem (part ++ record { at = n; row = record { line = line; raw = raw } } ∷ []) i) t.here h);
    }
