use Rattle.std.proofs.Common.{ℕ, List, ◌∙◌, subst, arith}
use Rattle.swh_batchread.specs.RefsFault.{RefBreaks, BreaksLines, MayBreakLines}
use Rattle.swh_batchread.specs.RefSteps.{TakesLine}
use Rattle.swh_batchread.proofs.ReadsOn.{not_read, left_by}
use Rattle.swh_batchread.proofs.Reaching.{exits, object_fails, nothing_left}
use Rattle.swh_batchread.proofs.RefsRead.{line_more, line_breaks, line_some}
use Rattle.swh_batchread.proofs.refs.read_lines.Goals as goal

pub returns-in_default-clause-read : goal.returns-in_default-clause-read
returns-in_default-clause-read g c = λ told.
    let none = c.in_ok-line.ensures.none told in
    let ended = rw c.in_default.is at none in
    nothing_left c.next_row.new.window.bytes (g.S.Source.left c.next_row.new.source) ended.nothing_now

pub returns-in_err-take_line-clause-err : goal.returns-in_err-take_line-clause-err
returns-in_err-take_line-clause-err g c =
    let text = g.S.Source.left c.args.source.now in
    let h = c.lines.invariant.has in
    let is = rw c.in-Some.is at c.in_ok-line.ensures.line in
    let short = rw c.in-Some.is at c.in_ok-line.ensures.short in
    let low = rw c.in-Some.is at c.in_ok-line.ensures.within in
    exits c.from_residual-in_err-take_line.result _ c.in_err-take_line.field-0.0 c.from_residual-in_err-take_line.ensures.1
    (object_fails g.S.Source.tells MayBreakLines (RefBreaks h.lines c.lines.number c.as_slice.result.now) (BreaksLines text) (g.S.Source.faults c.args.source.now) (g.S.Source.faults c.next_row.new.source) c.in_err-take_line.field-0.0
    (λ told fault breaks.
    let took = c.in_ok-line.ensures.taken told in
    line_breaks g.S.Source.tells text c.lines.window c.next_row.new.window (g.S.Source.left c.lines.source) (g.S.Source.left c.next_row.new.source) c.in-Some.line.items c.lines.number c.lines.refs fault h told is short (rw c.in-Some.is at took) low
    (subst (λ (line : List ℕ). RefBreaks h.lines c.lines.number line fault) c.as_slice.ensures.value breaks))
    (λ n. c.in_err-take_line.ensures.err h.lines h.held n))

pub returns-in_err-take_line-clause-on : goal.returns-in_err-take_line-clause-on
returns-in_err-take_line-clause-on g c =
    let h = c.lines.invariant.has in
    let next = c.in_ok-line.ensures.on in
    left_by g.S.Source.path g.S.Source.faults c.args.source.now c.next_row.new.source c.from_residual-in_err-take_line.result (next.same_path ∙ c.lines.invariant.same_path) c.in_err-take_line.field-0.0 c.from_residual-in_err-take_line.ensures.1 (next.quiet (λ e. cc) ∙ c.lines.invariant.quiet)
    (not_read MayBreakLines (RefBreaks h.lines c.lines.number c.as_slice.result.now) c.in_err-take_line.field-0.0 (λ n. c.in_err-take_line.ensures.err h.lines h.held n))

pub lines-preserved : goal.lines-preserved
lines-preserved g c =
    let h = c.lines.invariant.has in
    let is = rw c.in-Some.is at c.in_ok-line.ensures.line in
    let counted = rw c.in-Some.is at c.in_ok-line.ensures.counted in
    let low = rw c.in-Some.is at c.in_ok-line.ensures.within in
    let takes = subst (λ (line : List ℕ). TakesLine h.lines line c.take_line.new.refs) c.as_slice.ensures.value (c.in_ok-take_line.ensures.ok h.lines h.held) in
    let some = line_some c.in-Some.line.items is in
    record {
      place = low;
      first = omega (arith, c.lines.invariant.first);
      last = omega (arith, c.lines.invariant.last, counted, some);
      has =
          line_more g.S.Source.tells (g.S.Source.left c.args.source.now) c.lines.window c.next_row.new.window (g.S.Source.left c.lines.source) (g.S.Source.left c.next_row.new.source) c.in-Some.line.items c.lines.number c.lines.refs c.take_line.new.refs h takes
          (λ told. let took = c.in_ok-line.ensures.taken told in rw c.in-Some.is at took) counted low;
      same_path = c.in_ok-line.ensures.on.same_path ∙ c.lines.invariant.same_path;
      quiet = c.in_ok-line.ensures.on.quiet (λ e. cc) ∙ c.lines.invariant.quiet;
    }
