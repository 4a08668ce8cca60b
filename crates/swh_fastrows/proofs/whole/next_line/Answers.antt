use Rattle.std.proofs.Common.{inr}
use Rattle.swh_base.specs.declared.visit.Which.TheVariants.{Line, Stream}
use Rattle.swh_fastrows.proofs.NextLines.{long_here, over_here, word_here}
use Rattle.swh_fastrows.proofs.whole.next_line.Goals as goal

pub returns-in-Long-clause-end : goal.returns-in-Long-clause-end
returns-in-Long-clause-end g c = λ told same.
    let ahead = rw c.in-Long.is at c.in_ok-look.ensures.ahead in
    inr (Line, _, long_here c.look.new.self ahead.0 ahead.1)

pub returns-in-Over-clause-end : goal.returns-in-Over-clause-end
returns-in-Over-clause-end g c = λ told same.
    let ahead = rw c.in-Over.is at c.in_ok-look.ensures.ahead in
    inr (Stream, _, over_here c.look.new.self ahead.0 ahead.1)

pub returns-in-Some-clause-end : goal.returns-in-Some-clause-end
returns-in-Some-clause-end g c = λ told same.
    let ahead = rw c.in-Line.is at c.in_ok-look.ensures.ahead in
    let passes = rw c.in-Some.is at c.in_ok-word_limit-in-Line.ensures.some in
    inr (c.in-Some.field-0.0, c.in-Some.field-0.1, word_here c.look.new.self c.line.result.now c.in-Some.field-0.0 c.in-Some.field-0.1 c.line.ensures ahead.0 (c.in_ok-look.ensures.counts c.in-Line.is) passes)
