use Rattle.std.proofs.Common.{codes, refl, sym, subst}
use Rattle.swh_fastgrammar.specs.declared.command.At.{At}
use Rattle.swh_fastgrammar.specs.declared.command.Commitish.{Commitish}
use Rattle.swh_fastgrammar.specs.Grammar.{from}
use Rattle.swh_fastrows.specs.Places.{ReaderState, Part}
use Rattle.swh_fastgrammar.specs.Word.{NamesCommit}
use Rattle.swh_fastrows.proofs.NextLines.{lacks_end, lacks_placed, lacks_fails, part_placed}
use Rattle.swh_fastrows.proofs.optional.named_commit.Goals as goal

pub returns-then-not-branch-clause-fails : goal.returns-then-not-branch-clause-fails
returns-then-not-branch-clause-fails g c = λ told.
    let l = lacks_end from c.args.rows.now c.peek.new.rows (c.in_ok-peek.ensures.took told) (c.in_ok-peek.ensures.end told c.if-not-branch.true) in
    lacks_fails from c.args.rows.now c.peek.new.rows c.refusal.result l (c.refusal.ensures.refusal told l.counts)

pub returns-in_default-clause-fails : goal.returns-in_default-clause-fails
returns-in_default-clause-fails g c = λ told.
    let l = lacks_placed (codes "from ") NamesCommit c.args.rows.now c.peek.new.rows c.line.result.now (c.in_ok-peek.ensures.took told) (c.in_ok-peek.ensures.line c.if-not-branch.false) c.line.ensures (rw c.in_default.is at c.in_ok-commit.ensures.none) in
    lacks_fails from c.args.rows.now c.peek.new.rows c.refusal-in_default.result l (c.refusal-in_default.ensures.refusal told l.counts)

pub returns-clause-part : goal.returns-clause-part
returns-clause-part g c = λ told.
    let some = rw c.in-Some.is at c.in_ok-commit.ensures.some in
    let v : At Commitish = record { at = c.at-at.result; it = c.in-Some.commit } in
    subst (λ (p : ReaderState). Part from c.args.rows.now p v) (sym c.take.ensures)
    (part_placed (codes "from ") NamesCommit c.args.rows.now c.peek.new.rows c.line.result.now some.0 c.in-Some.commit v (c.in_ok-peek.ensures.took told) (c.in_ok-peek.ensures.line c.if-not-branch.false) c.line.ensures refl some.1 some.2 c.at-at.ensures refl)
