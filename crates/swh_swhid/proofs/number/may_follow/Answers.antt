use Rattle.std.proofs.Common.{arith}
use Rattle.swh_swhid.proofs.Numerals.{ten-small}
use Rattle.swh_swhid.proofs.number.may_follow.Goals as goal

pub overflow_mul-value : goal.overflow_mul-value
overflow_mul-value c = let few = ten-small c.args.count (omega arith) in omega (arith, few)

pub overflow_add-value : goal.overflow_add-value
overflow_add-value c = let few = ten-small c.args.count (omega arith) in let digit = c.is_digit.ensures.0 c.if-not-is_digit.false in omega (arith, few, digit, c.from.ensures)
