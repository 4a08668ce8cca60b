use Rattle.std.proofs.Common.{◌^◌, arith}
use Rattle.std.proofs.lemmas.Bool.Decides.{nat_tests}
use Rattle.swh_swhid.proofs.Numerals.{ten-above, reach}
use Rattle.swh_swhid.proofs.number.reaches.Goals as goal

pub nonzero_div-result : goal.nonzero_div-result
nonzero_div-result c = let above = ten-above c.args.left in rw c.pow.ensures above

pub returns : goal.returns
returns c =
    let both = reach c.args.least c.args.value (10 ^ c.args.left) (ten-above c.args.left) in
    rw c.pow.ensures (λ t. both.0 (grind (arith, nat_tests)), λ h. let le = both.1 h in grind (arith, nat_tests))
