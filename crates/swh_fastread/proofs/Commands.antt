-- Commands that were read as far as they go.
use Rattle.std.proofs.Common.{◌≡◌, inl, inr, Bool, false, List, [], ◌∷◌, ◌++◌, length, length-append, refl, sym, ap, ◌∙◌, subst, arith, append_assoc}
use Rattle.swh_fastgrammar.specs.declared.command.Command.{Command}
use Rattle.swh_fastgrammar.specs.Grammar.{Item, IsItem, IsCommand}
use Rattle.swh_fastgrammar.specs.Grammar.Item.{Says, Promise, Nothing}
use Rattle.swh_fastgrammar.specs.Row.{Row, text_of, Placed, placed}
use Rattle.swh_fastgrammar.proofs.Faults.{append_nil}
use Rattle.swh_fastgrammar.proofs.Parts.{cons_cut}
use Rattle.swh_fastgrammar.proofs.Rows.{goes_on}
use Rattle.swh_fastgrammar.proofs.Streams.{some_item}
use Rattle.swh_fastrows.specs.Explains.{IsClear, Reads}
use Rattle.swh_fastrows.specs.Outcome.{Ended, Starts}
use Rattle.swh_fastrows.specs.Places.{ReaderState, left, Took, position}
use Rattle.swh_fastrows.proofs.Joins.{took_append, or-false}
use Rattle.swh_fastread.proofs.Remains.{Within, Whole, any_next}

-- What was read between two places is one thing.
pub took_one : (a b : ReaderState) (p q : List Placed) → Took a b p → Took a b q → p ≡ q
took_one a b p q s t = elim (goes_on s.rows t.rows (left b) (left b) s.good t.good (sym s.spelled ∙ t.spelled)) [
  | inl h ↦ same h.0 h.1 h.2
  | inr h ↦ absurd (longer h.0 h.1 h.3)
]
  where
    longer : (r : Row) (more : List Row) → left b ≡ text_of (r ∷ more) ++ left b → ⊥
    longer r more e = omega (arith, ap length e, length-append (text_of (r ∷ more)) (left b), length-append (r.line ++ 10 ∷ r.raw) (text_of more), length-append r.line (10 ∷ r.raw))

    same : (more : List Row) → t.rows ≡ s.rows ++ more → left b ≡ text_of more ++ left b → p ≡ q
    same [] e f = sym s.those ∙ ap (placed a.at) (sym (e ∙ append_nil s.rows)) ∙ t.those
    same (r ∷ more) e f = absurd (longer r more f)

-- an item that is whole where no limit is passed
pub reads_whole : (a c : ReaderState) (part : List Placed) (i : Item) (command : Command) → i ≡ Says command → Took a c part → IsItem part i → (IsClear (position c false) → Whole a c i) → Reads IsCommand a c command
reads_whole a c part i command e t h w = record {
  rows = part;
  took = t;
  says = subst (IsItem part) e h;
  closed = λ clear q more y m k.
      let v = w clear in
      v.ended q more (Says y) m (subst (λ (r : List Placed). IsItem (r ++ q ∷ more) (Says y)) (took_one a c part v.part t v.took) k);
}

pub reads_item : (a c : ReaderState) (command : Command) → Whole a c (Says command) → Reads IsCommand a c command
reads_item a c command w = reads_whole a c w.part (Says command) command refl w.took w.is_item (λ clear. w)

-- an item whose last part was read as far as it goes
pub reads_last : {X : Type 0} (a b c : ReaderState) (L : List Placed → X → Type 0) (f : X → Item) (x : X) (command : Command) → f x ≡ Says command → Within IsItem a b L f → Reads L b c x → Reads IsCommand a c command
reads_last a b c L f x command e w r = record {
  rows = w.part ++ r.rows;
  took = took_append a b c w.part r.rows w.took r.took;
  says = subst (IsItem (w.part ++ r.rows)) e (w.remains.forth r.rows x r.says);
  closed = λ clear q more y m h.
      let v = w.remains.back (r.rows ++ q ∷ more) (Says y) (any_next b c r.rows (q ∷ more) r.took m) (subst (λ (z : List Placed). IsItem z (Says y)) (append_assoc w.part r.rows (q ∷ more)) h) in
      r.closed clear q more v.0 m v.1;
}

two_rows : (part : List Placed) (q x : Placed) (more : List Placed) → (part ≡ [] → ⊥) → part ++ q ∷ more ≡ x ∷ [] → ⊥
two_rows [] q x more n e = n refl
two_rows (p ∷ part) q x more n e = no_end part (cons_cut p x (part ++ q ∷ more) [] e).1
  where
    no_end : (rest : List Placed) → rest ++ q ∷ more ≡ [] → ⊥
    no_end [] f = cc
    no_end (r ∷ rest) f = cc

-- no item goes on with a command that was read as far as it goes
command_ended : (a c : ReaderState) (command : Command) (r : Reads IsCommand a c command) → IsClear (position c false) → Ended r.rows (left c)
command_ended a c command r clear q more (Says y) m h = r.closed clear q more y m h
command_ended a c command r clear q more Promise m h = two_rows r.rows q _ more (λ e. some_item r.rows [] (Says command) r.says (sym (append_nil r.rows ∙ e))) h.2
command_ended a c command r clear q more Nothing m (inl h) = two_rows r.rows q _ more (λ e. some_item r.rows [] (Says command) r.says (sym (append_nil r.rows ∙ e))) h.2
command_ended a c command r clear q more Nothing m (inr (inl h)) = two_rows r.rows q _ more (λ e. some_item r.rows [] (Says command) r.says (sym (append_nil r.rows ∙ e))) h.2
command_ended a c command r clear q more Nothing m (inr (inr h)) = two_rows r.rows q _ more (λ e. some_item r.rows [] (Says command) r.says (sym (append_nil r.rows ∙ e))) h.2

-- A command that was read starts the text.
pub command_starts : (a c : ReaderState) (command : Command) → Reads IsCommand a c command → (p : Bool) → Starts (position a p) (position c p) (Says command)
command_starts a c command r p =
    let t = r.took in
    record {
      rows = t.rows;
      spelled = t.spelled;
      good = t.good;
      fit = t.fit;
      said = subst (λ (z : List Placed). IsItem z (Says command)) (sym t.those) r.says;
      here = t.here;
      promised = sym (or-false p);
      ended = λ clear. subst (λ (z : List Placed). Ended z (left c)) (sym t.those) (command_ended a c command r clear);
    }
