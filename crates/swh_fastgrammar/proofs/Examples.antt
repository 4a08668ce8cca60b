-- Worked examples of the grammar.
use Rattle.std.proofs.Common.{◌+◌, length, if◌then◌else◌, None, ◌≡◌, ℕ, zero, suc, inl, inr, Bool, true, false, List, [], ◌∷◌, ◌++◌, refl, sym, ap, ◌∙◌, subst, arith, append_assoc, codes}
use Rattle.std.specs.List.{AllByRecursion, AllPass, list_any}
use Rattle.swh_base.proofs.Splits.{absent, not_nil}
use Rattle.swh_base.specs.Text.{is_digit}
use Rattle.swh_fastgrammar.specs.declared.command.Command.{Command}
use Rattle.swh_fastgrammar.specs.declared.command.Command.TheVariants.{Blob, Commit, Tag, Reset}
use Rattle.swh_fastgrammar.specs.declared.fault.StreamWhy.TheVariants.{End, Grammar, LeftOut}
use Rattle.swh_fastgrammar.specs.Fault.{BeginsRows, IsUnfinished, IsFault}
use Rattle.swh_fastgrammar.specs.Grammar.{Parses, line_at, Item, IsItem, is_promise, many, Ends, IsStream}
use Rattle.swh_fastgrammar.specs.Grammar.Item.{Promise, Says, Nothing}
use Rattle.swh_fastlex.specs.Path.{IsComponent, IsPath, NamesPath, Itself, Octal}
use Rattle.swh_fastlex.proofs.Components.{components_none}
use Rattle.swh_fastgrammar.specs.Row.{Row, row_text, text_of, IsData, Opens, IsRow, AreRows, Placed, placed, is_comment}
use Rattle.swh_fastgrammar.proofs.Rows.{goes_on}
use Rattle.swh_fastgrammar.proofs.Faults.{row_cut, row_line}
use Rattle.swh_fastgrammar.proofs.Parts.{cons_cut}
use Rattle.swh_fastgrammar.proofs.Streams.{one_items, some_item, shape, tag_of, tag_of_line}

abbrev first : List ℕ → ℕ
first [] = 0
first (c ∷ cs) = c

one_digit : AllPass is_digit (codes "3")
one_digit zero d l = refl
one_digit (suc k) d l = absurd (omega (arith, l))

abbrev abc_row : Row
abc_row = record { line = codes "data 3"; raw = codes "abc" }

pub abc : IsData abc_row (codes "abc") (codes "from :1\n")
abc = inl (record { text = codes "3"; feed = []; line = refl; number = record { some = omega arith; short = omega arith; digits = one_digit; value = refl }; raw = refl; is_feed = inr (refl, refl) })

abbrev cafe : List ℕ
cafe = codes "caf" ++ 195 ∷ 169 ∷ []

cafe_component : IsComponent cafe
cafe_component = record {
  some = λ e. let n : 99 ≡ 0 = ap first e in absurd (omega (arith, n));
  not_here = λ e. let n : 99 ≡ 46 = ap first e in absurd (omega (arith, n));
  not_above = λ e. let n : 99 ≡ 46 = ap first e in absurd (omega (arith, n));
  no_nul = absent 0 cafe refl;
}

cafe_path : IsPath cafe
cafe_path = subst (AllByRecursion IsComponent) (sym (components_none cafe (absent 47 cafe refl))) (cafe_component, tt)

starts_plain : (rest : List ℕ) → cafe ≡ 34 ∷ rest → ⊥
starts_plain rest e = let n : 99 ≡ 34 = ap first e in absurd (omega (arith, n))

pub plain : NamesPath cafe cafe
plain = (cafe_path, inr (record { same = refl; no_stop = absent 10 cafe refl; no_quote = starts_plain }))

pub quoted : NamesPath (codes "\"caf\\303\\251\"") cafe
quoted = (
  cafe_path,
  inl (record {
    pieces = Itself 99 ∷ Itself 97 ∷ Itself 102 ∷ Octal 3 0 3 ∷ Octal 2 5 1 ∷ [];
    are = ((λ e. absurd (omega (arith, e)), λ e. absurd (omega (arith, e)), λ e. absurd (omega (arith, e))), ((λ e. absurd (omega (arith, e)), λ e. absurd (omega (arith, e)), λ e. absurd (omega (arith, e))), ((λ e. absurd (omega (arith, e)), λ e. absurd (omega (arith, e)), λ e. absurd (omega (arith, e))), ((omega arith, omega arith, omega arith), ((omega arith, omega arith, omega arith), tt)))));
    spelled = refl;
    means = refl;
  }),
)

abbrev promise_row : Row
promise_row = record { line = codes "feature done"; raw = [] }

abbrev promise_at : Placed
promise_at = line_at 0 (codes "feature done")

closed : Opens (codes "feature done") → ⊥
closed (raw, bytes, after, inl d) = let n : 102 ≡ 100 = ap first d.line in omega (arith, n)
closed (raw, bytes, after, inr d) = let n : 102 ≡ 100 = ap first d.line in omega (arith, n)

is_row : (next : List ℕ) → IsRow promise_row next
is_row next = record { one_line = absent 10 (codes "feature done") refl; after = inr (closed, refl) }

said : many IsItem (promise_at ∷ []) (Promise ∷ [])
said = (promise_at ∷ [], [], refl, (0, [], refl, refl), refl)

begun : BeginsRows 0 false (promise_row ∷ [])
begun = record { more = []; ending = codes "done\n"; commands = []; whole = record { items = Promise ∷ []; good = (is_row (codes "done\n"), tt); said = said; ends = inr ([], refl); these = refl } }

unfinished : IsUnfinished []
unfinished = record { more = promise_at ∷ []; item = Promise; begins = (0, [], refl, refl); none = λ i h. some_item [] [] i h refl }

not_row : (row : Row) (next : List ℕ) → [] ≡ row_text row ++ next → IsRow row next → ⊥
not_row row next e h = not_nil row.line (row.raw ++ next) 10 (sym (append_assoc row.line (10 ∷ row.raw) next) ∙ sym e)

no_end : (p : Bool) (ending : List ℕ) → ending ≡ [] → p ≡ true → Ends p ending → ⊥
no_end p ending e t (inl n) = let d : true ≡ false = sym t ∙ n.1 in absurd cc
no_end p ending e t (inr n) = let d : 0 ≡ 100 = ap first (sym e ∙ n.1) in omega (arith, d)

no_stream : (cs : List Command) → IsStream 0 false (codes "feature done\n") cs → ⊥
no_stream cs s = elim (goes_on (promise_row ∷ []) s.rows [] s.ending (is_row [], tt) s.whole.good s.spelled) [
  | inl g ↦ on g.0 g.1 g.2
  | inr g ↦ short s.rows g.0 g.1 g.2 s.whole.ends g.3
]
  where
    on : (more : List Row) → s.rows ≡ promise_row ∷ more → [] ≡ text_of more ++ s.ending → ⊥
    on [] e g =
        let items : s.whole.items ≡ Promise ∷ [] = one_items (promise_at ∷ []) s.whole.items (Promise ∷ []) (subst (λ (r : List Row). many IsItem (placed 0 r) s.whole.items) e s.whole.said) said in
        no_end (list_any is_promise s.whole.items) s.ending (sym g) (ap (λ (is : List Item). list_any is_promise is) items) s.whole.ends
    on (r ∷ m) e g = not_nil r.line (r.raw ++ (text_of m ++ s.ending)) 10 (sym (row_cut r m s.ending) ∙ sym g)

    short : (rows : List Row) (r : Row) (m : List Row) → promise_row ∷ [] ≡ rows ++ r ∷ m → {b : Bool} → Ends b s.ending → s.ending ≡ text_of (r ∷ m) ++ [] → ⊥
    short [] r m e (inl n) g = not_nil r.line (r.raw ++ (text_of m ++ [])) 10 (sym (row_cut r m []) ∙ sym g ∙ n.0)
    short [] r m e (inr n) g =
        let same : promise_row ≡ r = cc in
        let d : 100 ≡ 102 = ap first (sym n.1 ∙ g ∙ row_cut r m [] ∙ ap (λ (x : Row). x.line ++ 10 ∷ (x.raw ++ (text_of m ++ []))) (sym same)) in omega (arith, d)
    short (x ∷ []) r m e n g = absurd cc
    short (x ∷ y ∷ rows) r m e n g = absurd cc

pub promised : IsFault 0 false (codes "feature done\n") [] 13 End
promised = record {
  rows = promise_row ∷ [];
  rest = [];
  before = record {
    spelled = refl;
    good = (is_row [], tt);
    may = begun;
    whole = promise_at ∷ [];
    part = [];
    items = Promise ∷ [];
    cut = refl;
    said = said;
    unfinished = unfinished;
    these = refl;
  };
  here = refl;
  cut = not_row;
  inside = inl (λ h. let l = h.1 in absurd (omega (arith, l)));
  none = no_stream;
}

two_digits : AllPass is_digit (codes "2")
two_digits zero d l = refl
two_digits (suc k) d l = absurd (omega (arith, l))

blob_closed : Opens (codes "blob") → ⊥
blob_closed (raw, bytes, after, inl d) = let n : 98 ≡ 100 = ap first d.line in omega (arith, n)
blob_closed (raw, bytes, after, inr d) = let n : 98 ≡ 100 = ap first d.line in omega (arith, n)

comment_closed : Opens (codes "#c") → ⊥
comment_closed (raw, bytes, after, inl d) = let n : 35 ≡ 100 = ap first d.line in omega (arith, n)
comment_closed (raw, bytes, after, inr d) = let n : 35 ≡ 100 = ap first d.line in omega (arith, n)

abbrev ab_row : Row
ab_row = record { line = codes "data 2"; raw = codes "ab" }

ab_data : IsData ab_row (codes "ab") []
ab_data = inl (record { text = codes "2"; feed = []; line = refl; number = record { some = omega arith; short = omega arith; digits = two_digits; value = refl }; raw = refl; is_feed = inr (refl, refl) })

abbrev ab_at : Placed
ab_at = record { at = 8; row = ab_row }

pub blob_alone : Parses (codes "blob\n#c\ndata 2\nab") (Blob None (codes "ab") ∷ [])
blob_alone = record {
  rows = record { line = codes "blob"; raw = [] } ∷ record { line = codes "#c"; raw = [] } ∷ ab_row ∷ [];
  ending = [];
  spelled = refl;
  whole = record {
    items = Says (Blob None (codes "ab")) ∷ [];
    good = (record { one_line = absent 10 (codes "blob") refl; after = inr (blob_closed, refl) }, (record { one_line = absent 10 (codes "#c") refl; after = inr (comment_closed, refl) }, (record { one_line = absent 10 (codes "data 2") refl; after = inl (codes "ab", ab_data) }, tt)));
    said = (line_at 0 (codes "blob") ∷ ab_at ∷ [], [], refl, (tt, (line_at 0 (codes "blob") ∷ [], ab_at ∷ [], refl, (0, [], refl, refl), ([], ab_at ∷ [], refl, refl, (None, ([], ab_at ∷ [], refl, refl, (ab_at, [], refl, ab_data)))))), refl);
    ends = inl (refl, refl);
    these = refl;
  };
}

pub left_out : IsFault 0 false (codes "ls x\n") [] 0 LeftOut
left_out = record {
  rows = [];
  line = codes "ls x";
  rest = [];
  one_line = absent 10 (codes "ls x") refl;
  before = record {
    spelled = refl;
    good = tt;
    may = record { more = []; ending = []; commands = []; whole = record { items = []; good = tt; said = refl; ends = inl (refl, refl); these = refl } };
    whole = [];
    part = [];
    items = [];
    cut = refl;
    said = refl;
    unfinished = unfinished;
    these = refl;
  };
  here = refl;
  out = refl;
  dead = λ e. absurd cc;
}

-- an item of this tag says nothing
says_nothing : (i : Item) → 6 ≡ tag_of i → i ≡ Nothing
says_nothing (Says (Blob m bytes)) e = absurd (omega (arith, e))
says_nothing (Says (Commit b m a c f g p s z)) e = absurd (omega (arith, e))
says_nothing (Says (Tag b m a t g)) e = absurd (omega (arith, e))
says_nothing (Says (Reset b p)) e = absurd (omega (arith, e))
says_nothing Promise e = absurd (omega (arith, e))
says_nothing Nothing e = refl

no_nothing : (p : Placed) (rows : List Placed) → p.row.line ≡ codes "foo" → IsItem (p ∷ rows) Nothing → ⊥
no_nothing p rows e (inl h) = let n : 102 ≡ 0 = ap first (sym e ∙ ap (λ (x : Placed). x.row.line) (cons_cut p (line_at h.0 h.1) rows [] h.2).0 ∙ h.3) in omega (arith, n)
no_nothing p rows e (inr (inl h)) = let n : 102 ≡ 99 = ap first (sym e ∙ ap (λ (x : Placed). x.row.line) (cons_cut p (line_at h.0 (codes "checkpoint" ++ h.1)) rows [] h.2).0) in omega (arith, n)
no_nothing p rows e (inr (inr h)) = let n : 102 ≡ 112 = ap first (sym e ∙ ap (λ (x : Placed). x.row.line) (cons_cut p (line_at h.0 (codes "progress " ++ h.1)) rows [] h.2).0) in omega (arith, n)

no_items : (p : Placed) (rows : List Placed) (is : List Item) → p.row.line ≡ codes "foo" → many IsItem (p ∷ rows) is → ⊥
no_items p rows [] e h = cc
no_items p rows (i ∷ is) e h =
    let s = shape h.0 i h.3 in
    let cut = cons_cut p s.first rows (s.others ++ h.1) (h.2 ∙ ap (λ (r : List Placed). r ++ h.1) s.rows_are) in
    let tag : 6 ≡ tag_of i = ap tag_of_line (sym e) ∙ ap (λ (x : Placed). tag_of_line x.row.line) cut.0 ∙ s.kind in
    let item : IsItem (s.first ∷ s.others) Nothing = subst (λ (j : Item). IsItem (s.first ∷ s.others) j) (says_nothing i tag) (subst (λ (r : List Placed). IsItem r i) s.rows_are h.3) in
    no_nothing s.first s.others (ap (λ (x : Placed). x.row.line) (sym cut.0) ∙ e) item

counted : (r : Row) (m : List Row) (is : List Item) → r.line ≡ codes "foo" → (b : Bool) → b ≡ false → many IsItem (if b then placed (0 + length (row_text r)) m else record { at = 0; row = r } ∷ placed (0 + length (row_text r)) m) is → ⊥
counted r m is line true n h = absurd cc
counted r m is line false n h = no_items (record { at = 0; row = r }) (placed (0 + length (row_text r)) m) is line h

no_such : (more : List ℕ) (cs : List Command) → IsStream 0 false (codes "foo\n" ++ more) cs → ⊥
no_such more cs s = by_rows s.rows s.whole.items s.spelled s.whole.good s.whole.said s.whole.ends
  where
    by_rows : (rows : List Row) (is : List Item) → codes "foo\n" ++ more ≡ text_of rows ++ s.ending → AreRows rows s.ending → many IsItem (placed 0 rows) is → {b : Bool} → Ends b s.ending → ⊥
    by_rows [] is e g h (inl n) = let d : 102 ≡ 0 = ap first (e ∙ n.0) in omega (arith, d)
    by_rows [] is e g h (inr n) = let d : 102 ≡ 100 = ap first (e ∙ n.1) in omega (arith, d)
    by_rows (r ∷ m) is e g h n =
        let line = row_line r m (codes "foo") more s.ending (absent 10 (codes "foo") refl) g e in
        counted r m is line (is_comment r.line) (ap is_comment line) h

pub unknown : (rest : List ℕ) → IsFault 0 false (codes "foo\n" ++ rest) [] 0 Grammar
unknown rest = record {
  rows = [];
  line = codes "foo";
  rest = rest;
  one_line = absent 10 (codes "foo") refl;
  before = record {
    spelled = refl;
    good = tt;
    may = record { more = []; ending = []; commands = []; whole = record { items = []; good = tt; said = refl; ends = inl (refl, refl); these = refl } };
    whole = [];
    part = [];
    items = [];
    cut = refl;
    said = refl;
    unfinished = unfinished;
    these = refl;
  };
  here = refl;
  out = refl;
  dead = λ e h. no_such h.0 h.1 h.2;
}
