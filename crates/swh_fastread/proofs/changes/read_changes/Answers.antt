use Rattle.std.proofs.Common.{◌≡◌, arith, inl, sym, ◌∙◌, subst, [], ◌∷◌, ◌++◌}
use Rattle.std.proofs.lemmas.Result.{err_from_is_err_and}
use Rattle.swh_fastgrammar.specs.Grammar.{change}
use Rattle.swh_fastgrammar.specs.Givable.{AreGivable}
use Rattle.swh_fastgrammar.proofs.Givable.{givable_more}
use Rattle.swh_fastread.specs.Tail.{ReadsSome}
use Rattle.swh_fastread.proofs.ReadChanges.{some_more, changes_stop, all_end, outside_stops, not_both}
use Rattle.swh_fastread.proofs.changes.read_changes.Goals as goal

pub returns-in_default-clause-changes : goal.returns-in_default-clause-changes
returns-in_default-clause-changes g c = λ told.
    changes_stop c.args.rows.now c.changes.rows c.next_change.new.rows c.changes.changes.items c.from_vec.result (c.changes.invariant.some told) (rw c.in_default.is at (c.in_ok-change.ensures.change told)) c.from_vec.ensures

pub returns-in_err-more-clause-fails : goal.returns-in_err-more-clause-fails
returns-in_err-more-clause-fails g c = λ told.
    let q = err_from_is_err_and c.from_residual-in_err-more.result c.from_residual-in_err-more.ensures.1 in
    rw (q.1, q.2) (record { before = c.changes.rows; changes = c.changes.changes.items; some = c.changes.invariant.some told; fails = inl (outside_stops c.in_err-more.field-0.0) })

pub changes-preserved : goal.changes-preserved
changes-preserved g c = record {
  some = λ told.
      let p = rw c.in-Some.is at (c.in_ok-change.ensures.change told) in
      let items : c.push.new.self.items ≡ c.changes.changes.items ++ c.in-Some.change ∷ [] = c.in_ok-push.ensures.items in
      subst (ReadsSome change c.args.rows.now c.next_line.new.rows) (sym items) (some_more change c.args.rows.now c.changes.rows c.next_change.new.rows c.next_line.new.rows c.changes.changes.items c.in-Some.change (c.changes.invariant.some told) p (c.in_ok-more.ensures.took told));
  givable =
      let one = rw c.in-Some.is at c.in_ok-change.ensures.givable in
      let items : c.push.new.self.items ≡ c.changes.changes.items ++ c.in-Some.change ∷ [] = c.in_ok-push.ensures.items in
      subst AreGivable (sym items) (givable_more c.changes.changes.items c.in-Some.change c.changes.invariant.givable one);
  line = c.in_ok-more.ensures.line;
  end = c.in_ok-more.ensures.end;
  none = λ e. absurd (not_both c.changes.more c.changes-test.true (c.changes.invariant.none e).0);
  same_path = c.next_line.ensures.on.same_path ∙ c.next_change.ensures.on.same_path ∙ c.changes.invariant.same_path;
  onward = let on = rw c.in-Some.is at c.in_ok-change.ensures.onward in omega (arith, on, c.next_line.ensures.onward, c.changes.invariant.onward);
  quiet = c.in_ok-more.ensures.on.quiet (λ h. cc) ∙ c.in_ok-change.ensures.on.quiet (λ h. cc) ∙ c.changes.invariant.quiet;
}

pub returns-clause-changes : goal.returns-clause-changes
returns-clause-changes g c = λ told.
    all_end change c.args.rows.now c.changes.rows c.changes.changes.items c.from_vec-2.result (c.changes.invariant.some told) (c.changes.invariant.end told c.changes-test.false) c.from_vec-2.ensures

pub returns-in_default-clause-onward : goal.returns-in_default-clause-onward
returns-in_default-clause-onward g c = let on = c.in_ok-change.ensures.never_back in omega (arith, on, c.changes.invariant.onward)

pub returns-clause-onward : goal.returns-clause-onward
returns-clause-onward g c = c.changes.invariant.onward
