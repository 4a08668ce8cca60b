use Rattle.std.proofs.Common.{codes, refl, sym, subst}
use Rattle.swh_fastgrammar.specs.declared.command.At.{At}
use Rattle.swh_fastgrammar.specs.declared.command.Commitish.{Commitish}
use Rattle.swh_fastgrammar.specs.Grammar.{from}
use Rattle.swh_fastgrammar.specs.Word.{NamesCommit}
use Rattle.swh_fastrows.specs.Places.{ReaderState, Part}
use Rattle.swh_fastrows.proofs.NextLines.{part_placed}
use Rattle.swh_fastread.proofs.ReadChanges.{stopped_end, stopped_placed, part_after}
use Rattle.swh_fastread.proofs.tail.read_parent.Goals as goal

pub returns-then-not-branch-clause-parent : goal.returns-then-not-branch-clause-parent
returns-then-not-branch-clause-parent g c = λ told. (c.in_ok-next_line.ensures.took told, λ sure. stopped_end from c.next_line.new.rows (c.in_ok-next_line.ensures.end told c.if-not-branch.true) sure)

pub returns-in_default-clause-parent : goal.returns-in_default-clause-parent
returns-in_default-clause-parent g c = λ told. (
  c.in_ok-next_line.ensures.took told,
  λ sure. stopped_placed (codes "from ") NamesCommit c.next_line.new.rows c.line.result.now (c.in_ok-next_line.ensures.line c.if-not-branch.false) c.line.ensures (rw c.in_default.is at c.in_ok-commit.ensures.none),
)

pub returns-clause-parent : goal.returns-clause-parent
returns-clause-parent g c = λ told.
    let some = rw c.in-Some.is at c.in_ok-commit.ensures.some in
    let v : At Commitish = record { at = c.at-at.result; it = c.in-Some.commit } in
    let p = part_placed (codes "from ") NamesCommit c.args.rows.now c.next_line.new.rows c.line.result.now some.0 c.in-Some.commit v (c.in_ok-next_line.ensures.took told) (c.in_ok-next_line.ensures.line c.if-not-branch.false) c.line.ensures refl some.1 some.2 c.at-at.ensures refl in
    part_after from c.args.rows.now c.take.new.self c.next_line-2.new.rows v (subst (λ (p : ReaderState). Part from c.args.rows.now p v) (sym c.take.ensures) p) (c.in_ok-next.ensures.took told)
