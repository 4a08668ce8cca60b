-- What follows an item with which a stream starts is a stream again, of the commands that are left.
use Rattle.std.proofs.Common.{◌≡◌, ℕ, ◌+◌, inl, inr, Bool, true, false, ◌||◌, if◌then◌else◌, List, [], ◌∷◌, ◌++◌, length, length-append, refl, sym, ap, ◌∙◌, subst, arith, append_assoc, codes}
use Rattle.std.specs.List.{list_any}
use Rattle.std.proofs.Math.Bool.{or_assoc}
use Rattle.swh_base.proofs.Splits.{absent, not_nil}
use Rattle.swh_fastgrammar.specs.declared.command.Command.{Command}
use Rattle.swh_fastgrammar.specs.Grammar.{many, Item, IsItem, is_promise, commands_of, Ends, IsStream}
use Rattle.swh_fastgrammar.specs.Grammar.Item.{Says, Promise, Nothing}
use Rattle.swh_fastgrammar.specs.Row.{Row, row_text, text_of, AreRows, Placed, placed, is_comment}
use Rattle.swh_fastgrammar.proofs.Faults.{append_nil, text_of-append, row_cut, row_line}
use Rattle.swh_fastgrammar.proofs.Kept.{kept, item_keeps, row_kept}
use Rattle.swh_fastgrammar.proofs.Parts.{cons_cut}
use Rattle.swh_fastgrammar.proofs.Rows.{goes_on}
use Rattle.swh_fastgrammar.proofs.Splits.{split_items, item_on}
use Rattle.swh_fastgrammar.proofs.Streams.{is_inner, Stops}
use Rattle.swh_fastrows.specs.Outcome.{IsStreamWithin, Ended, Starts, StartsAll, StartsWith}
use Rattle.swh_fastrows.specs.Places.{FirstLine, MayCount, Position}
use Rattle.swh_fastrows.specs.Within.{LineFits, AllFit}
use Rattle.swh_fastrows.proofs.Joins.{placed-append}

-- Of rows that fit, those that follow some do.
pub fit_after : (at : ℕ) (rs ms : List Row) (next : List ℕ) → AllFit at (rs ++ ms) next → AllFit (at + length (text_of rs)) ms next
fit_after at [] ms next f = let same : at ≡ at + length (text_of []) = omega arith in subst (λ (n : ℕ). AllFit n ms next) same f
fit_after at (r ∷ rs) ms next f =
    let sizes : at + length (row_text r) + length (text_of rs) ≡ at + length (row_text r ++ text_of rs) = omega (arith, length-append (row_text r) (text_of rs)) in
    subst (λ (n : ℕ). AllFit n ms next) sizes (fit_after (at + length (row_text r)) rs ms next f.1)

next_fits : (at : ℕ) (ms : List Row) (ending : List ℕ) → AllFit at ms ending → LineFits (at + length (text_of ms)) ending → LineFits at (text_of ms ++ ending)
next_fits at [] ending f e = let same : at + length (text_of []) ≡ at = omega arith in subst (λ (n : ℕ). LineFits n ending) same e
next_fits at (r ∷ ms) ending f e = f.0.line

-- The first row that counts may be the text's first line that counts.
may_count : (at : ℕ) (ms : List Row) (ending : List ℕ) (p : Placed) (ps : List Placed) → AreRows ms ending → placed at ms ≡ p ∷ ps → MayCount (text_of ms ++ ending) p.row.line
may_count at [] ending p ps g e = absurd cc
may_count at (r ∷ m) ending p ps g e = which (is_comment r.line) refl e
  where
    first : FirstLine (text_of (r ∷ m) ++ ending) r.line
    first = record { rest = r.raw ++ (text_of m ++ ending); spelled = row_cut r m ending; one_line = g.0.one_line }

    which : (b : Bool) → is_comment r.line ≡ b → (if b then placed (at + length (row_text r)) m else record { at = at; row = r } ∷ placed (at + length (row_text r)) m) ≡ p ∷ ps → MayCount (text_of (r ∷ m) ++ ending) p.row.line
    which true c f = inr (r.line, first, c)
    which false c f = inl (subst (λ (x : Placed). FirstLine (text_of (r ∷ m) ++ ending) x.row.line) (cons_cut (record { at = at; row = r }) p (placed (at + length (row_text r)) m) ps f).0 first)

-- Where no line goes on with the item, the next row goes on with none.
next_stops : (rows : List Placed) (item : Item) (js : List Item) (text : List ℕ) (qs : List Placed) → IsItem rows item → Ended rows text → ((p : Placed) (ps : List Placed) → qs ≡ p ∷ ps → MayCount text p.row.line) → many IsItem (rows ++ qs) js → Stops qs
next_stops rows item js text [] h e m k = tt
next_stops rows item js text (p ∷ ps) h e m k = which (is_inner p.row.line) refl
  where
    which : (b : Bool) → is_inner p.row.line ≡ b → is_inner p.row.line ≡ false
    which false t = t
    which true t = let on = item_on rows ps p item js h t k in absurd (e p on.more on.item (m p ps refl) on.said)

-- No row of an item begins where the stream ends.
past_end : (at : ℕ) (item : Item) (b : Bool) (rs rows : List Row) (ending next : List ℕ) (r : Row) (m : List Row) → IsItem (placed at rs) item → Ends b ending → rs ≡ rows ++ r ∷ m → ending ≡ text_of (r ∷ m) ++ next → AreRows (r ∷ m) next → ⊥
past_end at item b rs rows ending next r m h (inl n) e t g = not_nil r.line (r.raw ++ (text_of m ++ next)) 10 (sym (row_cut r m next) ∙ sym t ∙ n.0)
past_end at item b rs rows ending next r m h (inr n) e t g =
    let same = row_line r m (codes "done") n.0 next (absent 10 (codes "done") refl) g (sym n.1 ∙ t) in
    let k = row_kept at rows r m (item_keeps (placed at (rows ++ r ∷ m)) item (subst (λ (x : List Row). IsItem (placed at x) item) e h)) (ap is_comment same) in
    let d : true ≡ false = sym k ∙ ap kept same in
    absurd cc

pub commands_cons : (item : Item) (items : List Item) → commands_of (item ∷ items) ≡ commands_of (item ∷ []) ++ commands_of items
commands_cons (Says c) items = refl
commands_cons Promise items = refl
commands_cons Nothing items = refl

-- The stream goes on from here with what is left of the commands.
pub record GoesOnFrom (new : Position) (item : Item) (cs : List Command) : Type 0 where
  pub commands : List Command
  pub these : cs ≡ commands_of (item ∷ []) ++ commands
  pub stream : IsStreamWithin new.at new.promised new.left commands

after_rows : (old new : Position) (item : Item) (cs : List Command) (s : Starts old new item) (w : IsStreamWithin old.at old.promised old.left cs) (more : List Row) → w.stream.rows ≡ s.rows ++ more → new.left ≡ text_of more ++ w.stream.ending → AreRows more w.stream.ending → GoesOnFrom new item cs
after_rows old new item cs s w more e t good =
    let n = old.at + length (text_of s.rows) in
    let ending = w.stream.ending in
    let rows = placed old.at s.rows in
    let said : many IsItem (rows ++ placed n more) w.stream.whole.items = subst (λ (r : List Placed). many IsItem r w.stream.whole.items) (ap (placed old.at) e ∙ placed-append old.at s.rows more) w.stream.whole.said in
    let fit : AllFit n more ending = fit_after old.at s.rows more ending (subst (λ (r : List Row). AllFit old.at r ending) e w.fit) in
    let size : length (text_of w.stream.rows) ≡ length (text_of s.rows) + length (text_of more) = ap (λ (r : List Row). length (text_of r)) e ∙ ap length (text_of-append s.rows more) ∙ length-append (text_of s.rows) (text_of more) in
    let end_at : old.at + length (text_of w.stream.rows) ≡ n + length (text_of more) = omega (arith, size) in
    let end : LineFits (n + length (text_of more)) ending = subst (λ (k : ℕ). LineFits k ending) end_at w.end_fits in
    let line : LineFits new.at new.left = subst (λ (k : ℕ). LineFits k new.left) (sym s.here) (subst (λ (x : List ℕ). LineFits n x) (sym t) (next_fits n more ending fit end)) in
    let st : Stops (placed n more) = next_stops rows item w.stream.whole.items new.left (placed n more) s.said (s.ended line) (λ p ps q. subst (λ (x : List ℕ). MayCount x p.row.line) (sym t) (may_count n more ending p ps good q)) said in
    let one : many IsItem rows (item ∷ []) = (rows, [], sym (append_nil rows), s.said, refl) in
    let cut = split_items rows (placed n more) (item ∷ []) w.stream.whole.items one st said in
    let q = old.promised || is_promise item in
    let promise : old.promised || list_any is_promise w.stream.whole.items ≡ q || list_any is_promise cut.0 = ap (λ (xs : List Item). old.promised || list_any is_promise xs) cut.1 ∙ sym (or_assoc old.promised (is_promise item) (list_any is_promise cut.0)) in
    let inner : IsStream n q new.left (commands_of cut.0) = record {
      rows = more;
      ending = ending;
      spelled = t;
      whole = record { items = cut.0; good = good; said = cut.2; ends = subst (λ (b : Bool). Ends b ending) promise w.stream.whole.ends; these = refl };
    } in
    let within : IsStreamWithin n q new.left (commands_of cut.0) = record { stream = inner; fit = fit; end_fits = end } in
    record {
      commands = commands_of cut.0;
      these = w.stream.whole.these ∙ ap commands_of cut.1 ∙ commands_cons item cut.0;
      stream = subst (λ (k : ℕ). IsStreamWithin k new.promised new.left (commands_of cut.0)) (sym s.here) (subst (λ (b : Bool). IsStreamWithin n b new.left (commands_of cut.0)) (sym s.promised) within);
    }

pub stream_after : (old new : Position) (item : Item) (cs : List Command) → Starts old new item → IsStreamWithin old.at old.promised old.left cs → GoesOnFrom new item cs
stream_after old new item cs s w =
    elim (goes_on s.rows w.stream.rows new.left w.stream.ending s.good w.stream.whole.good (sym s.spelled ∙ w.stream.spelled)) [
      | inl g ↦ after_rows old new item cs s w g.0 g.1 g.2 g.3
      | inr g ↦ absurd (past_end old.at item (old.promised || list_any is_promise w.stream.whole.items) s.rows w.stream.rows w.stream.ending new.left g.0 g.1 s.said w.stream.whole.ends g.2 g.3 g.4)
    ]

-- The stream goes on from here with what is left of the commands, after these.
pub record GoesOnAfter (new : Position) (before cs : List Command) : Type 0 where
  pub commands : List Command
  pub these : cs ≡ before ++ commands
  pub stream : IsStreamWithin new.at new.promised new.left commands

all_after : (old new : Position) (items : List Item) (cs : List Command) → StartsAll old new items → IsStreamWithin old.at old.promised old.left cs → GoesOnAfter new (commands_of items) cs
all_after old new [] cs s w = record { commands = cs; these = refl; stream = subst (λ (p : Position). IsStreamWithin p.at p.promised p.left cs) s w }
all_after old new (item ∷ items) cs s w =
    let one = stream_after old s.0 item cs s.1 w in
    let more = all_after s.0 new items one.commands s.2 one.stream in
    record {
      commands = more.commands;
      these = one.these ∙ ap (λ (ds : List Command). commands_of (item ∷ []) ++ ds) more.these ∙ sym (append_assoc (commands_of (item ∷ [])) (commands_of items) more.commands) ∙ ap (λ (ds : List Command). ds ++ more.commands) (sym (commands_cons item items));
      stream = more.stream;
    }

-- A stream that starts with these commands has them first.
pub stream_after_start : (old new : Position) (before cs : List Command) → StartsWith old new before → IsStreamWithin old.at old.promised old.left cs → GoesOnAfter new before cs
stream_after_start old new before cs s w = subst (λ (b : List Command). GoesOnAfter new b cs) (sym s.these) (all_after old new s.items cs s.starts w)
