use Rattle.std.proofs.Common.{ℕ, Err, ap, sym, ◌∙◌, subst, arith}
use Rattle.swh_fastlex.specs.Line.{unread}
use Rattle.swh_batchread.specs.Failing.{Fails}
use Rattle.swh_batchread.specs.RefsFault.{LineBreaks, MayBreakLines}
use Rattle.swh_batchread.specs.RefSteps.{told}
use Rattle.swh_batchread.proofs.RefsRead.{row_told, row_over}
use Rattle.swh_batchread.proofs.refs.next_row.Goals as goal

pub returns-in-Err-clause-err : goal.returns-in-Err-clause-err
returns-in-Err-clause-err g c =
    let left = g.S.Source.left c.args.source.now in
    let old = g.S.Source.faults c.args.source.now in
    let new = g.S.Source.faults c.next_line.new.source in
    let why = c.line_fault.ensures ∙ ap (λ (n : ℕ). told c.in-Err.fault n c.args.number) c.place.ensures in
    subst (Fails g.S.Source.tells MayBreakLines (LineBreaks c.args.number c.args.window.now.place (unread c.args.window.now left)) old new) (sym why)
    (row_told g.S.Source.tells c.args.window.now c.next_line.new.window left (g.S.Source.left c.next_line.new.source) c.args.number old new c.in-Err.fault c.requires.first c.requires.last
    (λ e. c.in-Err.ensures.on.cause (ap Err e)) (λ t e. c.in-Err.ensures.end t (ap Err e)) (λ t e. c.in-Err.ensures.limit t (ap Err e)))

pub returns-then-place-gt-INPUT_LIMIT-clause-err : goal.returns-then-place-gt-INPUT_LIMIT-clause-err
returns-then-place-gt-INPUT_LIMIT-clause-err g c =
    row_over g.S.Source.tells c.args.window.now c.next_line.new.window (g.S.Source.left c.args.source.now) (g.S.Source.left c.next_line.new.source) c.in-Ok-Some.line.items c.args.number (g.S.Source.faults c.args.source.now) (g.S.Source.faults c.next_line.new.source)
    (rw c.in-Ok-Some.field-0-is at c.in-Ok-Some.ensures.line)
    (rw c.in-Ok-Some.field-0-is at c.in-Ok-Some.ensures.within)
    (λ t. let took = c.in-Ok-Some.ensures.taken t in rw c.in-Ok-Some.field-0-is at took)
    (omega (arith, c.if-place-gt-INPUT_LIMIT.true, c.place-2.ensures))
