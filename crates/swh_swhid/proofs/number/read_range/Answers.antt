use Rattle.std.proofs.Common.{arith, subst}
use Rattle.swh_swhid.specs.Front.{BreaksAt}
use Rattle.swh_swhid.specs.Number.{HasRange}
use Rattle.swh_swhid.proofs.Ranges.{range_breaks, first_read, second_read, second_breaks, value_small}
use Rattle.swh_swhid.proofs.number.read_range.Goals as goal

pub returns-then-first-eq0-clause-err : goal.returns-then-first-eq0-clause-err
returns-then-first-eq0-clause-err c =
    let none = c.if-first-eq0.true in
    subst (BreaksAt (HasRange c.args.least) c.args.text.now) none (range_breaks c.args.least c.args.text.now _ _ (omega arith) c.digits_front-first.ensures (λ e. none) (λ e. none))

pub returns-then-first-text-clause-ok : goal.returns-then-first-text-clause-ok
returns-then-first-text-clause-ok c = first_read c.args.least c.args.text.now _ _ c.requires c.digits_front-first.ensures (omega arith) c.if-first-text.true

pub returns-then-text-first-ne45-clause-err : goal.returns-then-text-first-ne45-clause-err
returns-then-text-first-ne45-clause-err c = range_breaks c.args.least c.args.text.now _ _ (omega arith) c.digits_front-first.ensures (λ e. absurd (c.if-text-first-ne45.true e)) (λ e. absurd (omega arith))

pub read_number-requires : goal.read_number-requires
read_number-requires c = let small = value_small c.args.least _ _ c.digits_front-first.ensures.goes_on in omega (arith, small)

pub returns-in-Ok-clause-ok : goal.returns-in-Ok-clause-ok
returns-in-Ok-clause-ok c =
    let f = c.digits_front-first.ensures in
    let within = f.within in
    second_read c.args.least c.args.text.now _ _ c.in-Ok.last c.requires f (omega arith) (omega arith) c.if-text-first-ne45.false (rw c.behind.ensures at c.in-Ok.ensures.ok)

pub returns-in-Err-clause-err : goal.returns-in-Err-clause-err
returns-in-Err-clause-err c =
    let f = c.digits_front-first.ensures in
    let within = f.within in
    second_breaks c.args.least c.args.text.now _ _ c.in-Err.at c.requires f (omega arith) (omega arith) c.if-text-first-ne45.false (rw c.behind.ensures at c.in-Err.ensures.err)
