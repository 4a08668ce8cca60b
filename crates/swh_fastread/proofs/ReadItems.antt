-- Items at a command's place.
use Rattle.std.proofs.Common.{◌≡◌, ℕ, ◌+◌, ◌≤◌, inl, inr, Bool, true, false, ◌||◌, if◌then◌else◌, List, [], ◌∷◌, ◌++◌, length, length-append, Contains, refl, sym, ap, ◌∙◌, subst, arith, codes, Result, Ok, Err, IfOk, IfErr}
use Rattle.swh_base.proofs.Splits.{absent, sized_split}
use Rattle.swh_base.specs.declared.visit.Which.TheVariants.{Ref}
use Rattle.swh_fastgrammar.specs.declared.command.Command.{Command as Said}
use Rattle.swh_fastgrammar.specs.declared.command.Command.TheVariants.{Blob, Commit, Tag, Reset}
use Rattle.swh_fastgrammar.specs.declared.fault.StreamWhy.TheVariants.{Grammar, LeftOut}
use Rattle.swh_fastgrammar.specs.Fault.{is_left_out}
use Rattle.swh_fastgrammar.specs.Grammar.{line_at, Item, IsItem, IsCommand, is_promise, commands_of, IsStream}
use Rattle.swh_fastgrammar.specs.Grammar.Item.{Says, Promise as Promises, Nothing as Silent}
use Rattle.swh_fastgrammar.specs.Row.{text_of, Opens, Placed}
use Rattle.swh_fastgrammar.proofs.Faults.{append_nil}
use Rattle.swh_fastgrammar.proofs.Parts.{cons_cut}
use Rattle.swh_fastgrammar.proofs.Streams.{tag_of, some_item}
use Rattle.swh_fastlines.specs.ItemLine.{SaysNothing, BeginsNone}
use Rattle.swh_fastlines.specs.Limit.{PassesRefs}
use Rattle.swh_fastlines.proofs.ItemLines.{kind}
use Rattle.swh_fastrows.specs.declared.fail.ReadFail.{ReadFail}
use Rattle.swh_fastrows.specs.declared.fail.ReadFail.TheVariants.{BadStream, ReadFault, Limit, Memory}
use Rattle.swh_fastread.specs.declared.items.Step.{Step}
use Rattle.swh_fastread.specs.declared.items.Step.TheVariants.{Command, Promise, Nothing, End}
use Rattle.swh_fastrows.specs.Explains.{Explains, Reads, Stops, line_refusal}
use Rattle.swh_fastrows.specs.Held.{IsNext, EndsNext}
use Rattle.swh_fastrows.specs.Outcome.{IsLineFaultWithin, IsEndFaultWithin, IsFaultWithin, PassesFirst, Ended, Starts}
use Rattle.swh_fastrows.specs.Places.{ReaderState, left, Took, position}
use Rattle.swh_fastread.specs.Steps.{IsStreamBefore, Whole, Passed, FindsCommand, EndsHere, FindsStep}
use Rattle.swh_fastrows.specs.Within.{LineFits, Fits}
use Rattle.swh_fastread.proofs.Broken.{Unfinished, line_within, end_within, limit_first, no_row}
use Rattle.swh_fastread.proofs.Comments.{comments_end, comments_explain}
use Rattle.swh_fastrows.proofs.Fitting.{endless_fits}
use Rattle.swh_fastrows.proofs.HeldLines.{taken, front_of, held_text, held_first, line_taken, next_fits, ending_fits}
use Rattle.swh_fastrows.proofs.Joins.{plain, plain_row, or-true, or-false, took_none, took_after}
use Rattle.swh_fastrows.proofs.NextLines.{closed_word, end_feeds}
use Rattle.swh_fastread.proofs.Outcomes.{before_carries, fault_carries, limit_carries, carries_with, starts_join}

-- a failure after what was passed
pub explains_passed : (a b : ReaderState) (p q : Bool) (fail : ReadFail) → Passed a b p q → Explains b q fail → Explains a p fail
explains_passed a b p q (BadStream at why) f e = carries_with (λ n cs. IsFaultWithin n.at n.promised n.left cs at why) (fault_carries at why) (position a p) (position b q) [] [] f e
explains_passed a b p q ReadFault f e = tt
explains_passed a b p q (Limit which number) f e = carries_with (λ n cs. PassesFirst n.at n.promised n.left cs which number) (limit_carries which number) (position a p) (position b q) [] [] f e
explains_passed a b p q Memory f e = tt

pub command_passed : (a b c : ReaderState) (p q : Bool) (command : Said) → Passed a b p q → Reads IsCommand b c command → FindsCommand a c p q command
command_passed a b c p q command f r = record { first = b; passed = f; reads = r }

pub ends_passed : (a b c : ReaderState) (p q : Bool) → Passed a b p q → EndsHere b c q → EndsHere a c p
ends_passed a b c p q f e = record {
  stream = carries_with (λ n cs. IsStreamBefore n.at n.promised n.left cs (left c)) (before_carries (left c)) (position a p) (position b q) [] [] f e.stream;
  held = e.held;
}

-- An item that was read starts the text.
item_starts : (a b : ReaderState) (i : Item) → Whole a b i → (p q : Bool) → q ≡ p || is_promise i → Starts (position a p) (position b q) i
item_starts a b i w p q e = record {
  rows = w.took.rows;
  spelled = w.took.spelled;
  good = w.took.good;
  fit = w.took.fit;
  said = subst (λ (z : List Placed). IsItem z i) (sym w.took.those) w.is_item;
  here = w.took.here;
  promised = e;
  ended = λ fits. subst (λ (z : List Placed). Ended z (left b)) (sym w.took.those) w.ended;
}

-- One item more was passed.
passed_item : (a b c : ReaderState) (i : Item) (p q r : Bool) → [] ≡ commands_of (i ∷ []) → r ≡ q || is_promise i → Passed a b p q → Whole b c i → Passed a c p r
passed_item a b c i p q r none e f w = starts_join (position a p) (position b q) (position c r) [] [] f (record { items = i ∷ []; starts = (position c r, item_starts b c i w q r e, refl); these = none })

pub passed_promise : (a b c : ReaderState) (p q : Bool) → Passed a b p q → Whole b c Promises → Passed a c p true
passed_promise a b c p q f w = passed_item a b c Promises p q true refl (sym (or-true q)) f w

pub passed_silent : (a b c : ReaderState) (p q : Bool) → Passed a b p q → Whole b c Silent → Passed a c p q
passed_silent a b c p q f w = passed_item a b c Silent p q q refl (sym (or-false q)) f w

whole_after : (a b c : ReaderState) (i : Item) → Took a b [] → Whole b c i → Whole a c i
whole_after a b c i t w = record { part = w.part; took = took_after a b c w.part t w.took; is_item = w.is_item; ended = w.ended }

-- what stands behind comments
step_passed : (a b c : ReaderState) (p : Bool) (step : Step) → Took a b [] → FindsStep b c p step → FindsStep a c p step
step_passed a b c p (Command command) t r = record { rows = r.rows; took = took_after a b c r.rows t r.took; says = r.says; closed = r.closed }
step_passed a b c p Promise t f = whole_after a b c Promises t f
step_passed a b c p Nothing t f = whole_after a b c Silent t f
step_passed a b c p End t f = record { stream = comments_end a b p (left c) t f.stream; held = f.held }

pub ok_passed : (a b c : ReaderState) (p : Bool) (r : Result Step ReadFail) → Took a b [] → IfOk r (FindsStep b c p) → IfOk r (FindsStep a c p)
ok_passed a b c p (Ok step) t f = step_passed a b c p step t f
ok_passed a b c p (Err fail) t f = tt

pub err_passed : (a b : ReaderState) (p : Bool) (r : Result Step ReadFail) → Took a b [] → IfErr r (Explains b p) → IfErr r (Explains a p)
err_passed a b p (Ok step) t f = tt
err_passed a b p (Err fail) t f = comments_explain a b p fail t f

-- what is known for each `promised`
pub ok_each : (a c : ReaderState) (p : Bool) (r : Result Step ReadFail) → IfOk r (λ step. (q : Bool) → FindsStep a c q step) → IfOk r (FindsStep a c p)
ok_each a c p (Ok step) f = f p
ok_each a c p (Err fail) f = tt

pub err_each : (a : ReaderState) (p : Bool) (r : Result Step ReadFail) → IfErr r (λ fail. (q : Bool) → Explains a q fail) → IfErr r (Explains a p)
err_each a p (Ok step) f = tt
err_each a p (Err fail) f = f p

one_row : (q x : Placed) (first : Placed) (more : List Placed) → first ∷ q ∷ more ≡ x ∷ [] → ⊥
one_row q x first more e = let n = (cons_cut first x (q ∷ more) [] e).1 in cc

-- no item goes on with a line that says nothing, or promises `done`
silent_ended : (first : Placed) (i : Item) → 5 ≤ tag_of i → IsItem (first ∷ []) i → (text : List ℕ) → Ended (first ∷ []) text
silent_ended first i five h text q more (Says (Blob m bytes)) may k = let n : tag_of i ≡ 1 = sym (kind first [] i first.row.line refl h) ∙ kind first (q ∷ more) (Says (Blob m bytes)) first.row.line refl k in absurd (omega (arith, n, five))
silent_ended first i five h text q more (Says (Commit b m a c g d p s z)) may k = let n : tag_of i ≡ 2 = sym (kind first [] i first.row.line refl h) ∙ kind first (q ∷ more) (Says (Commit b m a c g d p s z)) first.row.line refl k in absurd (omega (arith, n, five))
silent_ended first i five h text q more (Says (Tag b m a t g)) may k = let n : tag_of i ≡ 3 = sym (kind first [] i first.row.line refl h) ∙ kind first (q ∷ more) (Says (Tag b m a t g)) first.row.line refl k in absurd (omega (arith, n, five))
silent_ended first i five h text q more (Says (Reset b p)) may k = let n : tag_of i ≡ 4 = sym (kind first [] i first.row.line refl h) ∙ kind first (q ∷ more) (Says (Reset b p)) first.row.line refl k in absurd (omega (arith, n, five))
silent_ended first i five h text q more Promises may k = one_row q (line_at k.0 (codes "feature done" ++ k.1)) first more k.2
silent_ended first i five h text q more Silent may (inl k) = one_row q (line_at k.0 k.1) first more k.2
silent_ended first i five h text q more Silent may (inr (inl k)) = one_row q (line_at k.0 (codes "checkpoint" ++ k.1)) first more k.2
silent_ended first i five h text q more Silent may (inr (inr k)) = one_row q (line_at k.0 (codes "progress " ++ k.1)) first more k.2

-- the held line was passed
pub promise_taken : (a : ReaderState) (line : List ℕ) → IsNext a → a.held ≡ line ++ 10 ∷ [] → line ≡ codes "feature done" → Whole a (taken a) Promises
promise_taken a line n e same =
    let row : List Placed = line_at a.at line ∷ [] in
    let t : Took a (taken a) row = line_taken a a line (took_none a) e n (λ o. closed_word (codes "feature done") [] refl (subst Opens same o)) in
    let item : IsItem row Promises = (a.at, [], ap (λ (x : List ℕ). line_at a.at x ∷ []) same, refl) in
    record { part = row; took = t; is_item = item; ended = silent_ended (line_at a.at line) Promises (omega arith) item (left (taken a)) }

silent_item : (a : ReaderState) (line : List ℕ) → SaysNothing line → IsItem (line_at a.at line ∷ []) Silent
silent_item a line (inl e) = inl (a.at, line, refl, e)
silent_item a line (inr (inl e)) = inr (inl (a.at, [], ap (λ (x : List ℕ). line_at a.at x ∷ []) e, refl))
silent_item a line (inr (inr e)) = inr (inr (a.at, e.0, ap (λ (x : List ℕ). line_at a.at x ∷ []) e.1, tt))

silent_closed : (line : List ℕ) → SaysNothing line → Opens line → ⊥
silent_closed line (inl e) (raw, bytes, next, inl d) = let n : [] ≡ codes "data " ++ d.text = sym e ∙ d.line in cc
silent_closed line (inl e) (raw, bytes, next, inr d) = let n : [] ≡ codes "data <<" ++ d.word = sym e ∙ d.line in cc
silent_closed line (inr (inl e)) o = closed_word (codes "checkpoint") [] refl (subst Opens e o)
silent_closed line (inr (inr e)) o = closed_word (codes "progress ") e.0 refl (subst Opens e.1 o)

pub silent_taken : (a : ReaderState) (line : List ℕ) → IsNext a → a.held ≡ line ++ 10 ∷ [] → SaysNothing line → Whole a (taken a) Silent
silent_taken a line n e says =
    let row : List Placed = line_at a.at line ∷ [] in
    let t : Took a (taken a) row = line_taken a a line (took_none a) e n (silent_closed line says) in
    let item : IsItem row Silent = silent_item a line says in
    record { part = row; took = t; is_item = item; ended = silent_ended (line_at a.at line) Silent (omega arith) item (left (taken a)) }

-- the line that ends the stream
pub done_ends : (a : ReaderState) (line : List ℕ) → IsNext a → a.held ≡ line ++ 10 ∷ [] → line ≡ codes "done" → (p : Bool) → EndsHere a a p
done_ends a line n e same p =
    let stream : IsStream a.at p (left a) [] = record {
      rows = [];
      ending = left a;
      spelled = refl;
      whole = record { items = []; good = tt; said = refl; ends = inr (a.rest, held_text a line e ∙ ap (λ (x : List ℕ). x ++ 10 ∷ a.rest) same); these = refl };
    } in
    let same_at : a.at ≡ a.at + length (text_of []) = omega arith in
    record {
      stream = record { stream = record { stream = stream; fit = tt; end_fits = subst (λ (k : ℕ). LineFits k (left a)) same_at (next_fits a line n e) }; ends = refl };
      held = inr (e ∙ ap (λ (x : List ℕ). x ++ 10 ∷ []) same);
    }

pub empty : (x : List ℕ) → length x ≤ 0 → x ≡ []
empty [] h = refl
empty (c ∷ x) h = absurd (omega (arith, h))

-- the end of the input where nothing is held
pub input_ends : (a : ReaderState) → EndsNext a → left a ≡ [] → EndsHere a a false
input_ends a n e =
    let stream : IsStream a.at false (left a) [] = record { rows = []; ending = left a; spelled = refl; whole = record { items = []; good = tt; said = refl; ends = inl (e, refl); these = refl } } in
    let same_at : a.at ≡ a.at + length (text_of []) = omega arith in
    record {
      stream = record { stream = record { stream = stream; fit = tt; end_fits = subst (λ (k : ℕ). LineFits k (left a)) same_at (ending_fits a n) }; ends = refl };
      held = inl e;
    }

-- No rows are no item, and some rows are one.
none_unfinished : Unfinished []
none_unfinished = record {
  complete = λ n. record {
    more = plain (codes "checkpoint") ∷ [];
    item = Silent;
    is_item = inr (inl (n, [], refl, refl));
    good = (plain_row (codes "checkpoint") (codes "done\n") (absent 10 (codes "checkpoint") refl) (closed_word (codes "checkpoint") [] refl), tt);
    no_feed = refl;
  };
  none = λ i h. some_item [] [] i h refl;
}

pub ref_passes : (a : ReaderState) (line : List ℕ) (number : ℕ) → IsNext a → a.held ≡ line ++ 10 ∷ [] → PassesRefs line number → (p : Bool) → PassesFirst a.at p (left a) [] Ref number
ref_passes a line number n e r p = limit_first a a p [] Ref number (took_none a) none_unfinished (inl (record { line = line; first = held_first a line e n.line; counts = n.counts line e; passes = r }))

-- what stops the reading at a command's place
pub stops_here : (a : ReaderState) (p : Bool) (fail : ReadFail) → Stops a fail → Explains a p fail
stops_here a p (BadStream at why) s = absurd s
stops_here a p ReadFault s = tt
stops_here a p (Limit which number) s = limit_first a s.before p [] which number s.took none_unfinished (inl s.passes)
stops_here a p Memory s = tt

-- a line with which no item begins
pub line_explains : (a : ReaderState) (line : List ℕ) (at : ℕ) (fail : ReadFail) → IsNext a → a.held ≡ line ++ 10 ∷ [] → BeginsNone line → (line ≡ codes "done" → ⊥) → at ≡ a.at → fail ≡ line_refusal line at → (p : Bool) → Explains a p fail
line_explains a line at fail n e none no_end here same p = subst (Explains a p) (sym (same ∙ ap (line_refusal line) here)) (by_out (is_left_out line) refl)
  where
    refused : (o : Bool) → is_left_out line ≡ o → IsLineFaultWithin a.at p (left a) [] a.at o
    refused o out = line_within a a p [] line a.rest o (took_none a) (held_text a line e) (front_of a.held line e n.line) (n.counts line e) out none_unfinished (λ m. no_end) (λ q more j f h. none q more j f h) (next_fits a line n e)

    by_out : (o : Bool) → is_left_out line ≡ o → Explains a p (if o then BadStream a.at LeftOut else BadStream a.at Grammar)
    by_out true o = refused true o
    by_out false o = refused false o

pub held_left : (a : ReaderState) → EndsNext a → left a ≡ a.held
held_left a e = ap (λ (r : List ℕ). a.held ++ r) e.nothing ∙ append_nil a.held

-- the input ends where the stream does not
pub end_explains : (a : ReaderState) (p : Bool) (at : ℕ) → EndsNext a → at ≡ a.at + length a.held → (left a ≡ [] → p ≡ true) → IsEndFaultWithin a.at p (left a) [] at
end_explains a p at e here promised =
    let feeds : Contains (left a) 10 → ⊥ = end_feeds a e in
    let fits : Fits a.at (left a) = record { line = ending_fits a e; inside = endless_fits a.at (left a) feeds } in
    subst (IsEndFaultWithin a.at p (left a) []) (sym (here ∙ ap (λ (x : List ℕ). a.at + length x) (sym (held_left a e)))) (end_within a a p [] (took_none a) none_unfinished (no_row (left a) feeds) (inl feeds) (λ m. promised) fits)

-- the line before an LF
pub same_line : (a b : List ℕ) → a ++ 10 ∷ [] ≡ b ++ 10 ∷ [] → a ≡ b
same_line a b e = (sized_split a b (10 ∷ []) (10 ∷ []) (omega (arith, ap length e, length-append a (10 ∷ []), length-append b (10 ∷ []))) e).0

pub same_fail : {T : Type 0} (a b : ReadFail) (r : Result T ReadFail) → r ≡ Err a → r ≡ Err b → a ≡ b
same_fail a b r e f = cc
