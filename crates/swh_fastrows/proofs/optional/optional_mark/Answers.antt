use Rattle.std.proofs.Common.{rules, codes, refl, subst, sym}
use Rattle.swh_fastgrammar.specs.Grammar.{line}
use Rattle.swh_fastrows.specs.Places.{ReaderState, Part}
use Rattle.swh_fastgrammar.specs.Word.{IsMark}
use Rattle.swh_fastrows.proofs.NextLines.{lacks_end, lacks_line, part_line}
use Rattle.swh_fastrows.proofs.optional.optional_mark.Goals as goal

pub returns-then-not-branch-clause-part : goal.returns-then-not-branch-clause-part
returns-then-not-branch-clause-part g c = λ told. lacks_end (line (codes "mark :") IsMark) c.args.rows.now c.peek.new.rows (c.in_ok-peek.ensures.took told) (c.in_ok-peek.ensures.end told (search rules))

pub returns-in_default-clause-part : goal.returns-in_default-clause-part
returns-in_default-clause-part g c = λ told. lacks_line (codes "mark :") IsMark c.args.rows.now c.peek.new.rows c.line.result.now (c.in_ok-peek.ensures.took told) (c.in_ok-peek.ensures.line (search rules)) c.line.ensures c.in_default.ensures.none

pub returns-clause-part : goal.returns-clause-part
returns-clause-part g c = λ told.
    let some = c.in-Some.ensures.some in
    subst (λ (p : ReaderState). Part (line (codes "mark :") IsMark) c.args.rows.now p c.in-Some.mark) (sym c.take.ensures)
    (part_line (codes "mark :") IsMark c.args.rows.now c.peek.new.rows c.line.result.now some.0 c.in-Some.mark (c.in_ok-peek.ensures.took told) (c.in_ok-peek.ensures.line c.if-not-branch.false) c.line.ensures refl some.1 some.2)
