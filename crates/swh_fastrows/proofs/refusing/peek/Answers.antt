use Rattle.swh_fastrows.proofs.NextLines.{long_passes, over_passes, word_passes}
use Rattle.swh_fastrows.proofs.refusing.peek.Goals as goal

pub returns-in-Over-clause-fails : goal.returns-in-Over-clause-fails
returns-in-Over-clause-fails g c = λ told.
    let over = rw c.in-Over.is at c.in_ok-look.ensures.ahead in
    over_passes c.args.rows.now c.look.new.self (c.in_ok-look.ensures.took told) over.0 over.1

pub returns-in-Some-clause-fails : goal.returns-in-Some-clause-fails
returns-in-Some-clause-fails g c = λ told.
    let ahead = rw c.in-Line.is at c.in_ok-look.ensures.ahead in
    word_passes c.args.rows.now c.look.new.self c.line.result.now c.in-Some.which c.in-Some.number (c.in_ok-look.ensures.took told) c.line.ensures ahead.0 (c.in_ok-look.ensures.counts c.in-Line.is) (rw c.in-Some.is at c.in_ok-which-in-Line.ensures.some)

pub returns-in-Long-clause-fails : goal.returns-in-Long-clause-fails
returns-in-Long-clause-fails g c = λ told.
    let ahead = rw c.in-Long.is at c.in_ok-look.ensures.ahead in
    long_passes c.args.rows.now c.look.new.self (c.in_ok-look.ensures.took told) ahead.0 ahead.1
