use Rattle.std.proofs.Common.{◌≡◌, length}
use Rattle.swh_core_tests.proofs.random.agree_over.Given as goal

abbrev pub invariant-loop-step : goal.invariant-loop-step
invariant-loop-step g l = length l.world.seen ≡ 3
