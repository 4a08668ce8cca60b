use Rattle.std.proofs.Common.{◌≤◌, sym, ap, subst, refl, ◌∙◌, List, ℕ, length, arith}
use Rattle.swh_entries.specs.declared.entry.Entry.{Entry}
use Rattle.swh_forest.specs.Arena.{stands, forest_of, AreGood}
use Rattle.swh_entries.specs.Keys.{texts}
use Rattle.swh_forest.specs.Forest.{inserted}
use Rattle.swh_forest.proofs.Arenas.{if_ok, good-more, same-forest}
use Rattle.swh_forest.proofs.Steps.{inserted-nothing, with-good, forest-with}
use Rattle.swh_forest.proofs.Orders.{ordered-more}
use Rattle.swh_forest.proofs.Keeping.{kept-one, among-left}
use Rattle.swh_forest.specs.Kept.{named}
use Rattle.swh_forest.proofs.arena.add_some.Goals as goal

pub with_entry-requires-clause-others : goal.with_entry-requires-clause-others
with_entry-requires-clause-others c = rw c.as_slice.ensures.value (λ i d lt. let low = c.requires.others i d lt in let more = c.number.ensures.names.longer in omega arith)

pub with_entry-requires-clause-ordered : goal.with_entry-requires-clause-ordered
with_entry-requires-clause-ordered c = rw c.as_slice.ensures.value (ordered-more c.args.names.now.items c.number.new.self.items c.args.out.items c.number.ensures.names c.requires.others c.requires.ordered)

pub returns-in-None-clause-forest : goal.returns-in-None-clause-forest
returns-in-None-clause-forest c = λ at k good. rw c.in-None.is (sym (inserted-nothing c.args.name.now (forest_of (texts c.args.names.now.items) at c.args.out.items)))

pub returns-in_ok-number-in-Some-clause-good : goal.returns-in_ok-number-in-Some-clause-good
returns-in_ok-number-in-Some-clause-good c = λ k good low.
    let old = c.args.names.now.items in
    let new = c.number.new.self.items in
    let more : length c.args.names.now.items ≤ length c.number.new.self.items = c.number.ensures.names.longer in
    let e : Entry = record { name = c.in_ok-number-in-Some.number; child = c.in-Some.child } in
    let whole = good-more (length old) k (length new) k c.args.out.items more (omega arith) good in
    if_ok c.with_entry.result (λ p is. subst (λ (es : List Entry). AreGood (length new) k es) (sym is) (with-good (texts new) e (length new) k c.args.out.items (record { name = c.in_ok-number-in-Some.ensures.number.0; child = rw c.in-Some.is at low }) whole)) (rw c.as_slice.ensures.value at c.with_entry.ensures)

pub returns-in_ok-number-in-Some-clause-forest : goal.returns-in_ok-number-in-Some-clause-forest
returns-in_ok-number-in-Some-clause-forest c = λ at k good.
    let old = c.args.names.now.items in
    let new = c.number.new.self.items in
    let e : Entry = record { name = c.in_ok-number-in-Some.number; child = c.in-Some.child } in
    let tail = ap (λ (n : List ℕ). inserted n (stands at c.in-Some.child) (forest_of (texts new) at c.args.out.items)) c.in_ok-number-in-Some.ensures.number.1
    ∙ ap (inserted c.args.name.now (stands at c.in-Some.child)) (same-forest (texts new) (texts old) at at (length old) k c.args.out.items good c.number.ensures.names.same_names (λ j lt. refl)) in
    rw c.in-Some.is (if_ok c.with_entry.result (λ p is. ap (forest_of (texts new) at) is ∙ forest-with (texts new) e at c.args.out.items ∙ tail) (rw c.as_slice.ensures.value at c.with_entry.ensures))

pub returns-in_err-number-in-Some-clause-kept : goal.returns-in_err-number-in-Some-clause-kept
returns-in_err-number-in-Some-clause-kept c = rw c.in-Some.is (kept-one c.args.names.now.items c.number.new.self.items c.args.name.now c.number.ensures.one)

pub returns-in_ok-number-in-Some-clause-kept : goal.returns-in_ok-number-in-Some-clause-kept
returns-in_ok-number-in-Some-clause-kept c = rw c.in-Some.is (kept-one c.args.names.now.items c.number.new.self.items c.args.name.now c.number.ensures.one)

pub returns-in-None-clause-kept : goal.returns-in-None-clause-kept
returns-in-None-clause-kept c = among-left (texts c.args.names.now.items) (named c.args.name.now c.args.child)
