use Rattle.std.proofs.Common.{arith}
use Rattle.std.proofs.Math.Nat.{mod-add-mod}
use Rattle.swh_gen.specs.Stream.{state_after}
use Rattle.swh_gen.proofs.state_after.Goals as goal

pub returns : goal.returns
unfolding state_after
returns c = grind (arith, mod-add-mod)
