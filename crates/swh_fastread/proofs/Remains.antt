-- What the grammar of an item goes on with after rows of it. The place inside an item is the part of the grammar that
-- remains there, and how its value makes the item.
use Rattle.std.proofs.Common.{◌≡◌, ℕ, ◌+◌, inl, inr, Bool, true, false, if◌then◌else◌, List, [], ◌∷◌, ◌++◌, length, refl, sym, ap, ◌∙◌, subst, append_assoc, codes, Option, Some, None}
use Rattle.swh_base.specs.declared.visit.Which.{Which}
use Rattle.swh_fastrows.specs.Explains.{PassesAfter, DataPassesAfter}
use Rattle.swh_fastrows.specs.Outcome.{IsLineFaultWithin, IsEndFaultWithin, PassesFirst}
use Rattle.swh_fastgrammar.specs.Grammar.{◌▹◌, ◌▸◌, optional, many, Item, IsItem}
pub use Rattle.swh_fastread.specs.Steps.{Whole}
use Rattle.swh_fastrows.specs.Places.{ReaderState, left, Took, FirstLine, Refuses, Counts, Part, Lacks, OptionalPart, ManyParts, LineRefused, LineLacks, DataLacks, MayCount}
use Rattle.swh_fastgrammar.specs.Row.{Row, row_text, text_of, begins_with, IsFeed, IsData, AreRows, Placed, placed, is_comment}
use Rattle.swh_fastgrammar.proofs.Faults.{append_nil, row_cut}
use Rattle.swh_fastgrammar.proofs.Parts.{Single, Begins, begins, single_cut}
use Rattle.swh_fastrows.proofs.Joins.{took_append, took_before}
use Rattle.swh_fastread.proofs.Onward.{rows_first}
use Rattle.swh_fastrows.proofs.Fitting.{endless_fits}
use Rattle.swh_fastrows.proofs.HeldLines.{data_counts}
use Rattle.swh_fastread.proofs.Broken.{Unfinished, Dead, line_within, end_within, limit_first, no_row, filled_stream, data_may_come, both_nil}

-- The rows begin with the line that is next, if there are any.
abbrev pub Next : List ℕ → List Placed → Type 0
Next text [] = Unit {0}
Next text (p ∷ rows) = MayCount text p.row.line

-- After this part, and before this text, an item goes on with what M allows.
pub record Remains {V X : Type 0} (R : List Placed → V → Type 0) (part : List Placed) (text : List ℕ) (M : List Placed → X → Type 0) (f : X → V) : Type 0 where
  pub forth : (more : List Placed) (x : X) → M more x → R (part ++ more) (f x)
  pub back : (more : List Placed) (i : V) → Next text more → R (part ++ more) i → (x : X) × M more x

-- the same where the part was read
pub record Within {V X : Type 0} (R : List Placed → V → Type 0) (old now : ReaderState) (M : List Placed → X → Type 0) (f : X → V) : Type 0 where
  pub part : List Placed
  pub some : part ≡ [] → ⊥
  pub took : Took old now part
  pub remains : Remains R part (left now) M f

-- a part of the grammar that begins a text in one way, and has rows
pub record Solid {X : Type 0} (L : List Placed → X → Type 0) : Type 0 where
  pub cuts : (a b c d : List Placed) (x y : X) → L a x → L c y → a ++ b ≡ c ++ d → (a ≡ c) × (b ≡ d)
  pub some : (x : X) → L [] x → ⊥

-- what the first part begins with, the second does not
abbrev pub Clash : {X Y : Type 0} → (List Placed → X → Type 0) → (List Placed → Y → Type 0) → Type 0
Clash {X} {Y} L N = (rows more : List Placed) (x : X) (y : Y) → L rows x → N (rows ++ more) y → ⊥

pub single_solid : {X : Type 0} (L : List Placed → X → Type 0) → Single L → Solid L
single_solid L s = record {
  cuts = λ a b c d x y h k e. single_cut L L s s a b c d x y h k e;
  some = λ x h. let p = s [] x h in let e = p.1 in cc;
}

pub word_clash : {X Y : Type 0} (word : List ℕ) (L : List Placed → X → Type 0) (N : List Placed → Y → Type 0) → Single L → Begins word true L → Begins word false N → Clash L N
word_clash word L N s l n rows more x y h k =
    let p = s rows x h in
    let u : begins word (p.0 ∷ more) ≡ true = ap (begins word) (sym p.1) ∙ l rows x h in
    let v : begins word (p.0 ∷ more) ≡ false = ap (begins word) (ap (λ (r : List Placed). r ++ more) (sym p.1)) ∙ n (rows ++ more) y k in
    let d : true ≡ false = sym u ∙ v in
    absurd cc

pub some_append : (a b : List Placed) → (a ≡ [] → ⊥) → a ++ b ≡ [] → ⊥
some_append [] b n e = n refl
some_append (p ∷ a) b n e = cc

-- what was read is what was next
pub took_next : (a b : ReaderState) (rows : List Placed) → Took a b rows → (rows ≡ [] → ⊥) → (more : List Placed) → Next (left a) (rows ++ more)
took_next a b [] t n more = absurd (n refl)
took_next a b (p ∷ rows) t n more = subst (λ (x : List ℕ). MayCount x p.row.line) (sym t.spelled) (rows_first a.at t.rows (left b) t.good p rows t.those)

-- after comments that were read
skipped_next : (a b : ReaderState) → Took a b [] → (line : List ℕ) → MayCount (left b) line → MayCount (left a) line
skipped_next a b t line m = by_rows t.rows t.spelled t.good t.those
  where
    by_rows : (rows : List Row) → left a ≡ text_of rows ++ left b → AreRows rows (left b) → placed a.at rows ≡ [] → MayCount (left a) line
    by_rows [] e g n = subst (λ (x : List ℕ). MayCount x line) (sym e) m
    by_rows (r ∷ rows) e g n =
        let f : FirstLine (left a) r.line = record { rest = r.raw ++ (text_of rows ++ left b); spelled = e ∙ row_cut r rows (left b); one_line = g.0.one_line } in
        inr (r.line, f, comment (is_comment r.line) refl n)
      where
        comment : (t : Bool) → is_comment r.line ≡ t → (if t then (placed (a.at + length (row_text r)) rows) else (record { at = a.at; row = r } ∷ placed (a.at + length (row_text r)) rows)) ≡ [] → is_comment r.line ≡ true
        comment true u v = u
        comment false u v = absurd cc

all_next : (text other : List ℕ) → ((line : List ℕ) → MayCount other line → MayCount text line) → (more : List Placed) → Next other more → Next text more
all_next text other h [] n = tt
all_next text other h (p ∷ more) n = h p.row.line n

pub skip_comments : {V X : Type 0} (R : List Placed → V → Type 0) (a b c : ReaderState) (M : List Placed → X → Type 0) (f : X → V) → Within R a b M f → Took b c [] → Within R a c M f
skip_comments R a b c M f w t = record {
  part = w.part;
  some = w.some;
  took = took_before a b c w.part w.took t;
  remains = record { forth = w.remains.forth; back = λ more i n h. w.remains.back more i (all_next (left b) (left c) (skipped_next b c t) more n) h };
}

-- a first part was read
pub step_then : {V X Y : Type 0} (R : List Placed → V → Type 0) (a b c : ReaderState) (L : List Placed → X → Type 0) (N : List Placed → Y → Type 0) (f : X × Y → V) (x : X) → Solid L → Within R a b (L ▹ N) f → Part L b c x → Within R a c N (λ y. f (x, y))
step_then {V} {X} {Y} R a b c L N f x s w p = record {
  part = w.part ++ p.rows;
  some = some_append w.part p.rows w.some;
  took = took_append a b c w.part p.rows w.took p.took;
  remains = record {
    forth = λ more y h. subst (λ (r : List Placed). R r (f (x, y))) (sym (append_assoc w.part p.rows more)) (w.remains.forth (p.rows ++ more) (x, y) (p.rows, more, refl, p.says, h));
    back = λ more i n h.
        let none : p.rows ≡ [] → ⊥ = λ e. s.some x (subst (λ (r : List Placed). L r x) e p.says) in
        let r = w.remains.back (p.rows ++ more) i (took_next b c p.rows p.took none more) (subst (λ (t : List Placed). R t i) (append_assoc w.part p.rows more) h) in
        let k = r.1 in
        let cut = s.cuts p.rows more k.0 k.1 x r.0.0 p.says k.3 k.2 in
        (r.0.1, subst (λ (t : List Placed). N t r.0.1) (sym cut.1) k.4);
  };
}

-- what was lacking is not next
pub lacks_next : {X : Type 0} (b c : ReaderState) (L : List Placed → X → Type 0) (l : Lacks L b c) (rows more : List Placed) (x : X) → ((y : X) → L [] y → ⊥) → L rows x → Next (left c) (rows ++ more) → ⊥
lacks_next b c L l [] more x some h n = some x h
lacks_next b c L l (p ∷ rows) more x some h (inl f) = l.refused p rows x f h
lacks_next b c L l (p ∷ rows) more x some h (inr f) = let t = f.2 in let u = l.counts f.0 f.1 in let d : true ≡ false = sym t ∙ u in absurd cc

-- a part was read or is lacking
pub step_optional : {V X Y : Type 0} (R : List Placed → V → Type 0) (a b c : ReaderState) (L : List Placed → X → Type 0) (N : List Placed → Y → Type 0) (f : Option X × Y → V) (v : Option X) → Solid L → Clash L N → Within R a b (optional L ▹ N) f → OptionalPart L b c v → Within R a c N (λ y. f (v, y))
step_optional {V} {X} {Y} R a b c L N f None s d w p =
    let u = skip_comments R a b c (optional L ▹ N) f w p.took in
    record {
      part = u.part;
      some = u.some;
      took = u.took;
      remains = record {
        forth = λ more y h. u.remains.forth more (None, y) ([], more, refl, refl, h);
        back = λ more i n h. let r = u.remains.back more i n h in none more n r.0.0 r.0.1 r.1;
      };
    }
  where
    none : (more : List Placed) → Next (left c) more → (o : Option X) (y : Y) → (optional L ▹ N) more (o, y) → (z : Y) × N more z
    none more n None y h = (y, subst (λ (t : List Placed). N t y) (sym (h.2 ∙ ap (λ (t : List Placed). t ++ h.1) h.3)) h.4)
    none more n (Some x) y h = absurd (lacks_next b c L p h.0 h.1 x s.some h.3 (subst (Next (left c)) h.2 n))
step_optional {V} {X} {Y} R a b c L N f (Some x) s d w p = record {
  part = w.part ++ p.rows;
  some = some_append w.part p.rows w.some;
  took = took_append a b c w.part p.rows w.took p.took;
  remains = record {
    forth = λ more y h. subst (λ (r : List Placed). R r (f (Some x, y))) (sym (append_assoc w.part p.rows more)) (w.remains.forth (p.rows ++ more) (Some x, y) (p.rows, more, refl, p.says, h));
    back = λ more i n h.
        let none : p.rows ≡ [] → ⊥ = λ e. s.some x (subst (λ (r : List Placed). L r x) e p.says) in
        let r = w.remains.back (p.rows ++ more) i (took_next b c p.rows p.took none more) (subst (λ (t : List Placed). R t i) (append_assoc w.part p.rows more) h) in
        found more r.0.0 r.0.1 r.1;
  };
}
  where
    found : (more : List Placed) (o : Option X) (y : Y) → (optional L ▹ N) (p.rows ++ more) (o, y) → (z : Y) × N more z
    found more None y h = absurd (d p.rows more x y p.says (subst (λ (t : List Placed). N t y) (sym (h.2 ∙ ap (λ (t : List Placed). t ++ h.1) h.3)) h.4))
    found more (Some z) y h = let cut = s.cuts p.rows more h.0 h.1 x z p.says h.3 h.2 in (y, subst (λ (t : List Placed). N t y) (sym cut.1) h.4)

pub step_skip : {V X Y : Type 0} (R : List Placed → V → Type 0) (a b : ReaderState) (L : List Placed → X → Type 0) (N : List Placed → Y → Type 0) (f : Y → V) → Within R a b (L ▸ N) f → Within R a b (L ▹ N) (λ v. f v.1)
step_skip {V} {X} {Y} R a b L N f w = record {
  part = w.part;
  some = w.some;
  took = w.took;
  remains = record {
    forth = λ more v h. w.remains.forth more v.1 (v.0, h);
    back = λ more i n h. let r = w.remains.back more i n h in ((r.1.0, r.0), r.1.1);
  };
}

-- a part that was read as often as it came is the front of what a longer list of them says
pub many_cut : {X Y : Type 0} (L : List Placed → X → Type 0) (N : List Placed → Y → Type 0) → Solid L → Clash L N → (rows more : List Placed) (xs zs : List X) (y : Y) → many L rows xs → (many L ▹ N) (rows ++ more) (zs, y) → (ys : List X) × (many L ▹ N) more (ys, y)
many_cut L N s d rows more [] zs y h k = (zs, (k.0, k.1, ap (λ (t : List Placed). t ++ more) (sym h) ∙ k.2, k.3, k.4))
many_cut L N s d rows more (x ∷ xs) [] y h k =
    let whole : rows ++ more ≡ h.0 ++ (h.1 ++ more) = ap (λ (t : List Placed). t ++ more) h.2 ∙ append_assoc h.0 h.1 more in
    absurd (d h.0 (h.1 ++ more) x y h.3 (subst (λ (t : List Placed). N t y) (sym (k.2 ∙ ap (λ (t : List Placed). t ++ k.1) k.3) ∙ whole) k.4))
many_cut L N s d rows more (x ∷ xs) (z ∷ zs) y h k =
    let whole : h.0 ++ (h.1 ++ more) ≡ k.3.0 ++ (k.3.1 ++ k.1) = sym (append_assoc h.0 h.1 more) ∙ ap (λ (t : List Placed). t ++ more) (sym h.2) ∙ k.2 ∙ ap (λ (t : List Placed). t ++ k.1) k.3.2 ∙ append_assoc k.3.0 k.3.1 k.1 in
    let cut = s.cuts h.0 (h.1 ++ more) k.3.0 (k.3.1 ++ k.1) x z h.3 k.3.3 whole in
    many_cut L N s d h.1 more xs zs y h.4 (k.3.1, k.1, cut.1, k.3.4, k.4)

pub many_append : {X : Type 0} (L : List Placed → X → Type 0) (a b : List Placed) (xs ys : List X) → many L a xs → many L b ys → many L (a ++ b) (xs ++ ys)
many_append {X} L a b [] ys h k = subst (λ (r : List Placed). many L r ys) (ap (λ (r : List Placed). r ++ b) (sym h)) k
many_append L a b (x ∷ xs) ys h k = (h.0, h.1 ++ b, ap (λ (r : List Placed). r ++ b) h.2 ∙ append_assoc h.0 h.1 b, h.3, many_append L h.1 b xs ys h.4 k)

pub any_next : (b c : ReaderState) (rows more : List Placed) → Took b c rows → Next (left c) more → Next (left b) (rows ++ more)
any_next b c [] more t n = all_next (left b) (left c) (skipped_next b c t) more n
any_next b c (p ∷ rows) more t n = took_next b c (p ∷ rows) t (λ e. absurd cc) more

-- some more of a part that may come any number of times
pub step_some : {V X Y : Type 0} (R : List Placed → V → Type 0) (a b c : ReaderState) (L : List Placed → X → Type 0) (N : List Placed → Y → Type 0) (f : List X × Y → V) (rows : List Placed) (xs : List X) → Solid L → Clash L N → Within R a b (many L ▹ N) f → Took b c rows → many L rows xs → Within R a c (many L ▹ N) (λ v. f (xs ++ v.0, v.1))
step_some {V} {X} {Y} R a b c L N f rows xs s d w t h = record {
  part = w.part ++ rows;
  some = some_append w.part rows w.some;
  took = took_append a b c w.part rows w.took t;
  remains = record {
    forth = λ more v k. subst (λ (r : List Placed). R r (f (xs ++ v.0, v.1))) (sym (append_assoc w.part rows more)) (w.remains.forth (rows ++ more) (xs ++ v.0, v.1) (rows ++ k.0, k.1, ap (λ (r : List Placed). rows ++ r) k.2 ∙ sym (append_assoc rows k.0 k.1), many_append L rows k.0 xs v.0 h k.3, k.4));
    back = λ more i n k.
        let r = w.remains.back (rows ++ more) i (any_next b c rows more t n) (subst (λ (z : List Placed). R z i) (append_assoc w.part rows more) k) in
        let e = many_cut L N s d rows more xs r.0.0 r.0.1 h r.1 in
        ((e.0, r.0.1), e.1);
  };
}

-- no more of it comes
pub step_stop : {V X Y : Type 0} (R : List Placed → V → Type 0) (a b : ReaderState) (L : List Placed → X → Type 0) (N : List Placed → Y → Type 0) (f : List X × Y → V) → Solid L → Within R a b (many L ▹ N) f → Refuses L (left b) → Counts (left b) → Within R a b N (λ y. f ([], y))
step_stop {V} {X} {Y} R a b L N f s w refused counts = record {
  part = w.part;
  some = w.some;
  took = w.took;
  remains = record {
    forth = λ more y h. w.remains.forth more ([], y) ([], more, refl, refl, h);
    back = λ more i n h. let r = w.remains.back more i n h in stop more n r.0.0 r.0.1 r.1;
  };
}
  where
    first : (rows : List Placed) (x : X) → L rows x → (more : List Placed) → Next (left b) (rows ++ more) → ⊥
    first [] x h more n = s.some x h
    first (p ∷ rows) x h more (inl f) = refused p rows x f h
    first (p ∷ rows) x h more (inr f) = let t = f.2 in let u = counts f.0 f.1 in let d : true ≡ false = sym t ∙ u in absurd cc

    stop : (more : List Placed) → Next (left b) more → (xs : List X) (y : Y) → (many L ▹ N) more (xs, y) → (z : Y) × N more z
    stop more n [] y h = (y, subst (λ (t : List Placed). N t y) (sym (h.2 ∙ ap (λ (t : List Placed). t ++ h.1) h.3)) h.4)
    stop more n (x ∷ xs) y h = absurd (first h.3.0 x h.3.3 (h.3.1 ++ h.1) (subst (Next (left b)) (h.2 ∙ ap (λ (t : List Placed). t ++ h.1) h.3.2 ∙ append_assoc h.3.0 h.3.1 h.1) n))

same_value : {V X : Type 0} (R : List Placed → V → Type 0) (a b : ReaderState) (M : List Placed → X → Type 0) (f g : X → V) → ((x : X) → f x ≡ g x) → Within R a b M f → Within R a b M g
same_value {V} {X} R a b M f g e w = record {
  part = w.part;
  some = w.some;
  took = w.took;
  remains = record { forth = λ more x h. subst (λ (i : V). R (w.part ++ more) i) (e x) (w.remains.forth more x h); back = w.remains.back };
}

-- as often as it came
pub step_many : {V X Y : Type 0} (R : List Placed → V → Type 0) (a b c : ReaderState) (L : List Placed → X → Type 0) (N : List Placed → Y → Type 0) (f : List X × Y → V) (xs : List X) → Solid L → Clash L N → Within R a b (many L ▹ N) f → ManyParts L b c xs → Within R a c N (λ y. f (xs, y))
step_many {V} {X} {Y} R a b c L N f xs s d w p =
    let g : List X × Y → V = λ v. f (xs ++ v.0, v.1) in
    let more : Within R a c (many L ▹ N) g = step_some R a b c L N f p.rows xs s d w p.took p.says in
    same_value R a c N (λ y. f (xs ++ [], y)) (λ y. f (xs, y)) (λ y. ap (λ (zs : List X). f (zs, y)) (append_nil xs)) (step_stop R a c L N g s more p.refused p.counts)

-- no more rows
abbrev pub no_more : List Placed → Unit {0} → Type 0
no_more rows x = rows ≡ []

pub closing : {V X : Type 0} (R : List Placed → V → Type 0) (a b : ReaderState) (M : List Placed → X → Type 0) (f : X → V) → Within R a b M f → Within R a b (M ▹ no_more) (λ v. f v.0)
closing {V} {X} R a b M f w = record {
  part = w.part;
  some = w.some;
  took = w.took;
  remains = record {
    forth = λ more v h. w.remains.forth more v.0 (subst (λ (r : List Placed). M r v.0) (sym (h.2 ∙ ap (λ (r : List Placed). h.0 ++ r) h.4 ∙ append_nil h.0)) h.3);
    back = λ more i n h. let r = w.remains.back more i n h in ((r.0, tt), (more, [], sym (append_nil more), r.1, refl));
  };
}

-- The item is whole where no more rows remain.
pub whole : (a b : ReaderState) (f : Unit {0} → Item) → Within IsItem a b no_more f → Whole a b (f tt)
whole a b f w = record {
  part = w.part;
  took = w.took;
  is_item = subst (λ (r : List Placed). IsItem r (f tt)) (append_nil w.part) (w.remains.forth [] tt refl);
  ended = λ q more j m h. let e = (w.remains.back (q ∷ more) j m h).1 in cc;
}

-- rows at a place that end the part
pub record Completes {X : Type 0} (M : List Placed → X → Type 0) (n : ℕ) : Type 0 where
  pub rows : List Row
  pub x : X
  pub says : M (placed n rows) x
  pub good : AreRows rows (codes "done\n")
  pub no_feed : begins_with 10 (text_of rows ++ codes "done\n") ≡ false

-- The part wants rows still.
pub record Wants {X : Type 0} (M : List Placed → X → Type 0) : Type 0 where
  pub none : (x : X) → M [] x → ⊥
  pub complete : (n : ℕ) → Completes M n

pub unfinished : {X : Type 0} (a b : ReaderState) (M : List Placed → X → Type 0) (f : X → Item) (w : Within IsItem a b M f) → Wants M → Unfinished w.part
unfinished a b M f w o = record {
  complete = λ n. let c = o.complete n in record { more = c.rows; item = f c.x; is_item = w.remains.forth (placed n c.rows) c.x c.says; good = c.good; no_feed = c.no_feed };
  none = λ i h. let r = w.remains.back [] i tt (subst (λ (z : List Placed). IsItem z i) (sym (append_nil w.part)) h) in o.none r.0 r.1;
}

-- a line that the part does not begin with
pub break_line : {X Z : Type 0} (a b : ReaderState) (p : Bool) (M : List Placed → X → Type 0) (L : List Placed → Z → Type 0) (f : X → Item) (at : ℕ) (out : Bool) → Within IsItem a b M f → Wants M → ((text : List ℕ) → Refuses L text → Refuses M text) → LineRefused L b at out → IsLineFaultWithin a.at p (left a) [] at out
break_line a b p M L f at out w o refuses r =
    let c = r.before in
    let u = skip_comments IsItem a b c M f w r.took in
    let first = r.first in
    let dead : Dead u.part r.line = λ q more j e h.
    let line : FirstLine (left c) q.row.line = subst (FirstLine (left c)) (sym e) first in
    let m = u.remains.back (q ∷ more) j (inl line) h in
    refuses (left c) r.refused q more m.0 line m.1 in
    subst (λ (n : ℕ). IsLineFaultWithin a.at p (left a) [] n out) (sym r.here)
    (line_within a c p u.part r.line first.rest out u.took first.spelled first.one_line r.counts r.is_out (unfinished a c M f u o) (λ e. absurd (u.some e)) dead r.fits)

-- no line
pub break_end : {X : Type 0} (a b : ReaderState) (p : Bool) (M : List Placed → X → Type 0) (f : X → Item) (at : ℕ) → Within IsItem a b M f → Wants M → LineLacks b at → IsEndFaultWithin a.at p (left a) [] at
break_end a b p M f at w o r =
    let c = r.before in
    let u = skip_comments IsItem a b c M f w r.took in
    subst (IsEndFaultWithin a.at p (left a) []) (sym r.here) (end_within a c p u.part u.took (unfinished a c M f u o) (no_row (left c) r.no_feed) (inl r.no_feed) (λ e. absurd (u.some e)) (record { line = r.fits; inside = endless_fits c.at (left c) r.no_feed }))

-- data that are cut off
pub break_data : {X : Type 0} (a b : ReaderState) (p : Bool) (M : List Placed → X → Type 0) (f : X → Item) (at : ℕ) → Within IsItem a b M f → Wants M → ((q : Placed) (bytes next : List ℕ) → IsData q.row bytes next → (x : X) × M (q ∷ []) x) → DataLacks b at → IsEndFaultWithin a.at p (left a) [] at
break_data a b p M f at w o ends r =
    let c = r.before in
    let u = skip_comments IsItem a b c M f w r.took in
    let row : Row = record { line = r.line; raw = r.next ++ r.more } in
    let q : Placed = record { at = c.at; row = row } in
    let m = ends q r.bytes (codes "done\n") r.filled in
    let counts : is_comment r.line ≡ false = data_counts row r.bytes (codes "done\n") r.filled in
    subst (IsEndFaultWithin a.at p (left a) []) (sym r.here)
    (end_within a c p u.part u.took (unfinished a c M f u o) r.cut (inr (filled_stream a c p u.part r.line r.next r.more r.bytes u.took r.spelled r.one_line counts r.filled (f m.0) (u.remains.forth (q ∷ []) m.0 m.1))) (λ e. absurd (u.some e)) r.fits)

-- a line that passes a limit
pub break_limit : {X : Type 0} (a b : ReaderState) (p : Bool) (M : List Placed → X → Type 0) (f : X → Item) (which : Which) (number : ℕ) → Within IsItem a b M f → Wants M → PassesAfter b which number → PassesFirst a.at p (left a) [] which number
break_limit a b p M f which number w o r =
    let c = r.before in
    let u = skip_comments IsItem a b c M f w r.took in
    limit_first a c p u.part which number u.took (unfinished a c M f u o) (inl r.passes)

-- an LF directly after data is theirs wherever they end
to_done : (row : Row) (bytes next : List ℕ) → IsData row bytes next → IsData row bytes (codes "done\n")
to_done row bytes next (inl d) = inl (record { text = d.text; feed = d.feed; line = d.line; number = d.number; raw = d.raw; is_feed = done d.feed d.is_feed })
  where
    done : (feed : List ℕ) → IsFeed feed next → IsFeed feed (codes "done\n")
    done feed (inl e) = inl e
    done feed (inr e) = inr (e.0, refl)
to_done row bytes next (inr d) = inr (record { word = d.word; lines = d.lines; feed = d.feed; line = d.line; not_empty = d.not_empty; one_line = d.one_line; each = d.each; value = d.value; raw = d.raw; is_feed = done d.feed d.is_feed })
  where
    done : (feed : List ℕ) → IsFeed feed next → IsFeed feed (codes "done\n")
    done feed (inl e) = inl e
    done feed (inr e) = inr (e.0, refl)

-- data that pass a limit
pub break_over : {X : Type 0} (a b : ReaderState) (p : Bool) (M : List Placed → X → Type 0) (f : X → Item) (which : Which) (number : ℕ) → Within IsItem a b M f → Wants M → ((q : Placed) (bytes next : List ℕ) → IsData q.row bytes next → (x : X) × M (q ∷ []) x) → DataPassesAfter b which number → PassesFirst a.at p (left a) [] which number
break_over a b p M f which number w o ends r =
    let c = r.before in
    let u = skip_comments IsItem a b c M f w r.took in
    let row : Row = record { line = r.line; raw = r.opens.0 } in
    let filled = to_done row r.opens.1 r.opens.2 r.opens.3 in
    let q : Placed = record { at = c.at; row = row } in
    let m = ends q r.opens.1 (codes "done\n") filled in
    let may = data_may_come a c p u.part r.line r.opens.0 r.opens.1 u.took r.first (data_counts row r.opens.1 (codes "done\n") filled) filled (f m.0) (u.remains.forth (q ∷ []) m.0 m.1) in
    limit_first a c p u.part which number u.took (unfinished a c M f u o) (inr (r.passes, may))

-- What may come before what is wanted leaves it wanted.
pub wants_optional : {X Y : Type 0} (L : List Placed → X → Type 0) (N : List Placed → Y → Type 0) → Wants N → Wants (optional L ▹ N)
wants_optional {X} {Y} L N o = record {
  none = λ v h. o.none v.1 (subst (λ (r : List Placed). N r v.1) (both_nil h.0 h.1 (sym h.2)).1 h.4);
  complete = λ n. let c = o.complete n in record { rows = c.rows; x = (None, c.x); says = ([], placed n c.rows, refl, refl, c.says); good = c.good; no_feed = c.no_feed };
}

pub wants_skip : {X Y : Type 0} (L : List Placed → X → Type 0) (N : List Placed → Y → Type 0) → Wants N → Wants (optional L ▸ N)
wants_skip {X} {Y} L N o = record {
  none = λ y h. o.none y (subst (λ (r : List Placed). N r y) (both_nil h.1.0 h.1.1 (sym h.1.2)).1 h.1.4);
  complete = λ n. let c = o.complete n in record { rows = c.rows; x = c.x; says = (None, ([], placed n c.rows, refl, refl, c.says)); good = c.good; no_feed = c.no_feed };
}
