use Rattle.std.proofs.Common.{◌≡◌, arith, refl, sym, ap, ◌∙◌, subst, [], ◌∷◌, ◌++◌, codes}
use Rattle.swh_fastgrammar.specs.Word.{NamesCommit}
use Rattle.swh_fastgrammar.specs.declared.command.At.{At}
use Rattle.swh_fastgrammar.specs.declared.command.Commitish.{Commitish}
use Rattle.swh_fastgrammar.proofs.Items.{merge}
use Rattle.swh_fastrows.specs.Places.{ReaderState, Part}
use Rattle.swh_fastread.specs.Tail.{ReadsSome}
use Rattle.swh_fastrows.proofs.Joins.{took_none}
use Rattle.swh_fastrows.proofs.NextLines.{part_placed}
use Rattle.swh_fastread.proofs.ReadChanges.{some_more, all_end, all_line, stopped_placed, not_both}
use Rattle.swh_fastread.proofs.tail.read_merges.Goals as goal

pub returns-in_default-clause-merges : goal.returns-in_default-clause-merges
returns-in_default-clause-merges g c = λ told.
    all_line merge c.args.rows.now c.merges.rows c.merges.merges.items c.from_vec.result (c.merges.invariant.some told) (stopped_placed (codes "merge ") NamesCommit c.merges.rows c.line.result.now (c.merges.invariant.line c.merges-test.true) c.line.ensures (rw c.in_default.is at c.in_ok-commit.ensures.none)) c.from_vec.ensures

pub merges-preserved : goal.merges-preserved
merges-preserved g c = record {
  some = λ told.
      let said = rw c.in-Some.is at c.in_ok-commit.ensures.some in
      let v : At Commitish = record { at = c.at-at.result; it = c.in-Some.commit } in
      let p = part_placed (codes "merge ") NamesCommit c.merges.rows c.merges.rows c.line.result.now said.0 c.in-Some.commit v (took_none c.merges.rows) (c.merges.invariant.line c.merges-test.true) c.line.ensures refl said.1 said.2 c.at-at.ensures refl in
      let items : c.push.new.self.items ≡ c.merges.merges.items ++ v ∷ [] = c.in_ok-push.ensures.items in
      subst (ReadsSome merge c.args.rows.now c.next_line.new.rows) (sym items) (some_more merge c.args.rows.now c.merges.rows c.take.new.self c.next_line.new.rows c.merges.merges.items v (c.merges.invariant.some told) (subst (λ (p : ReaderState). Part merge c.merges.rows p v) (sym c.take.ensures) p) (c.in_ok-more.ensures.took told));
  line = c.in_ok-more.ensures.line;
  end = c.in_ok-more.ensures.end;
  none = λ e. absurd (not_both c.merges.more c.merges-test.true (c.merges.invariant.none e).0);
  same_path = c.next_line.ensures.on.same_path ∙ ap (λ (p : ReaderState). p.path) c.take.ensures ∙ c.merges.invariant.same_path;
  onward = omega (arith, c.next_line.ensures.onward, ap (λ (p : ReaderState). p.at) c.take.ensures, c.merges.invariant.onward);
  quiet = c.in_ok-more.ensures.on.quiet (λ h. cc) ∙ ap (λ (p : ReaderState). p.faults) c.take.ensures ∙ c.merges.invariant.quiet;
}

pub returns-clause-merges : goal.returns-clause-merges
returns-clause-merges g c = λ told.
    all_end merge c.args.rows.now c.merges.rows c.merges.merges.items c.from_vec-2.result (c.merges.invariant.some told) (c.merges.invariant.end told c.merges-test.false) c.from_vec-2.ensures

pub returns-in_default-clause-onward : goal.returns-in_default-clause-onward
returns-in_default-clause-onward g c = c.merges.invariant.onward

pub returns-clause-onward : goal.returns-clause-onward
returns-clause-onward g c = c.merges.invariant.onward
