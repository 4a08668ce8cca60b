use Rattle.std.proofs.Common.{arith, Err, ap, ◌∙◌}
use Rattle.swh_batchread.specs.declared.fault.BatchFault.TheVariants.{BadBatch}
use Rattle.swh_batchread.proofs.Breaking.{cut_header, long_header, other_header}
use Rattle.swh_batchread.proofs.parts.next_header.Goals as goal

pub returns-in-Err-End-clause-err : goal.returns-in-Err-End-clause-err
returns-in-Err-End-clause-err g c =
    cut_header g.S.Source.tells c.args.window.now c.next_line.new.window (g.S.Source.left c.args.source.now) (g.S.Source.left c.next_line.new.source) (g.S.Source.faults c.args.source.now) (g.S.Source.faults c.next_line.new.source) c.broken.result
    (λ above. c.broken.ensures.past (omega (arith, above, c.place.ensures)))
    (λ below. c.broken.ensures.within (omega (arith, below, c.place.ensures)) ∙ ap BadBatch c.place-start.ensures)
    c.requires
    (λ told. c.next_line.ensures.end told (c.in-Err-End.is ∙ ap Err c.in-Err-End.field-0-is))

pub returns-in-Err-Limit-clause-err : goal.returns-in-Err-Limit-clause-err
returns-in-Err-Limit-clause-err g c =
    long_header g.S.Source.tells c.args.window.now c.next_line.new.window (g.S.Source.left c.args.source.now) (g.S.Source.left c.next_line.new.source) (g.S.Source.faults c.args.source.now) (g.S.Source.faults c.next_line.new.source) c.broken-in-Err-Limit.result
    (λ above. c.broken-in-Err-Limit.ensures.past (omega (arith, above, c.place-in-Err-Limit.ensures)))
    (λ below. c.broken-in-Err-Limit.ensures.within (omega (arith, below, c.place-in-Err-Limit.ensures)) ∙ ap BadBatch c.place-start.ensures)
    c.requires
    (λ told. c.next_line.ensures.limit told (c.in-Err-Limit.is ∙ ap Err c.in-Err-Limit.field-0-is))

pub returns-then-place-gt-INPUT_LIMIT-clause-err : goal.returns-then-place-gt-INPUT_LIMIT-clause-err
returns-then-place-gt-INPUT_LIMIT-clause-err g c =
    other_header g.S.Source.tells c.args.window.now c.next_line.new.window (g.S.Source.left c.args.source.now) (g.S.Source.left c.next_line.new.source) c.in-Ok-Some.line.items (g.S.Source.faults c.args.source.now) (g.S.Source.faults c.next_line.new.source) c.broken-then-place-gt-INPUT_LIMIT.result
    (λ above. c.broken-then-place-gt-INPUT_LIMIT.ensures.past (omega (arith, above, c.place-then-place-gt-INPUT_LIMIT.ensures)))
    (λ below. c.broken-then-place-gt-INPUT_LIMIT.ensures.within (omega (arith, below, c.place-then-place-gt-INPUT_LIMIT.ensures)) ∙ ap BadBatch c.place-start.ensures)
    c.requires
    (rw c.in-Ok-Some.field-0-is at c.in-Ok-Some.ensures.line)
    (rw c.in-Ok-Some.field-0-is at c.in-Ok-Some.ensures.within)
    (λ told. let took = c.in-Ok-Some.ensures.taken told in rw c.in-Ok-Some.field-0-is at took)
    (λ below. absurd (omega (arith, below, c.if-place-gt-INPUT_LIMIT.true, c.place-2.ensures)))

pub returns-clause-err : goal.returns-clause-err
returns-clause-err g c =
    other_header g.S.Source.tells c.args.window.now c.next_line.new.window (g.S.Source.left c.args.source.now) (g.S.Source.left c.next_line.new.source) c.in-Ok-Some.line.items (g.S.Source.faults c.args.source.now) (g.S.Source.faults c.next_line.new.source) c.broken-in-None.result
    (λ above. c.broken-in-None.ensures.past (omega (arith, above, c.place-in-None.ensures)))
    (λ below. c.broken-in-None.ensures.within (omega (arith, below, c.place-in-None.ensures)) ∙ ap BadBatch c.place-start.ensures)
    c.requires
    (rw c.in-Ok-Some.field-0-is at c.in-Ok-Some.ensures.line)
    (rw c.in-Ok-Some.field-0-is at c.in-Ok-Some.ensures.within)
    (λ told. let took = c.in-Ok-Some.ensures.taken told in rw c.in-Ok-Some.field-0-is at took)
    (λ below h is e. c.in-None.ensures h is (c.as_slice.ensures.value ∙ e))
