use Rattle.std.proofs.Common.{rules, arith, length}
use Rattle.swh_base.proofs.Numbers.{number_small, number_more, value_more, digits_more, number_whole}
use Rattle.swh_base.proofs.number.number_of.Goals as goal

pub overflow_mul-n : goal.overflow_mul-n
overflow_mul-n c =
    let b = number_small c.loop-digit.n c.loop-digit.digit-index (length c.args.digits.now) c.loop-digit.invariant.small c.loop-digit-test.true c.if-digits-gt18.false in
    omega (arith, b)

pub overflow_add-n : goal.overflow_add-n
overflow_add-n c =
    let b = number_small c.loop-digit.n c.loop-digit.digit-index (length c.args.digits.now) c.loop-digit.invariant.small c.loop-digit-test.true c.if-digits-gt18.false in
    omega (arith, b, c.if-digit-gt57.false)

pub loop-digit-preserved : goal.loop-digit-preserved
loop-digit-preserved c = record {
  value = value_more c.loop-digit.n c.loop-digit.digit-index c.args.digits.now _ c.loop-digit-test.true c.loop-digit.invariant.value;
  small = number_more c.loop-digit.n c.loop-digit.digit-index _ c.loop-digit.invariant.small c.if-digit-lt48.false c.if-digit-gt57.false;
  digits = digits_more c.args.digits.now c.loop-digit.digit-index c.loop-digit-test.true c.loop-digit.invariant.digits c.if-digit-lt48.false c.if-digit-gt57.false;
}

pub returns-clause-some : goal.returns-clause-some
returns-clause-some c = number_whole c.args.digits.now c.loop-digit.n c.loop-digit.digit-index (search rules) c.if-digits-gt18.false c.loop-digit-test.false c.loop-digit.invariant.value c.loop-digit.invariant.digits
