use Rattle.std.proofs.Common.{arith}
use Rattle.swh_snpfmt.proofs.Fronts.{sized-no_colon, sized-no_number, sized-too_long}
use Rattle.swh_snpfmt.proofs.front.sized.Goals as goal

pub returns-in_default-clause-none : goal.returns-in_default-clause-none
returns-in_default-clause-none c = sized-no_colon c.args.bytes.now c.in_default.ensures.none

pub returns-in_default-number_of-clause-none : goal.returns-in_default-number_of-clause-none
returns-in_default-number_of-clause-none c =
    let cut = c.in-Some.ensures.some in
    sized-no_number c.args.bytes.now c.in-Some.digits.now c.in-Some.rest.now cut.0 cut.1 c.in_default-number_of.ensures.none

pub returns-then-size-rest-clause-none : goal.returns-then-size-rest-clause-none
returns-then-size-rest-clause-none c =
    let cut = c.in-Some.ensures.some in
    sized-too_long c.args.bytes.now c.in-Some.digits.now c.in-Some.rest.now c.in-Some-number_of.size (omega arith) cut.0 cut.1 c.in-Some-number_of.ensures.some (omega arith)
