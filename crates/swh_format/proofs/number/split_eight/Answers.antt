use Rattle.std.proofs.Common.{arith}
use Rattle.swh_format.proofs.Fronts.{eight_front}
use Rattle.swh_format.proofs.number.split_eight.Goals as goal

pub returns-clause-some : goal.returns-clause-some
returns-clause-some c =
    let front = c.in-Some.ensures.cases in
    eight_front _ _ _ _ front.0 front.1 front.2 (λ i. omega (arith, c.type_inv.bytes i)) c.from_be_bytes.ensures
