use Rattle.std.proofs.Common.{◌≡◌, length}
use Rattle.swh_core_tests.proofs.scripts.are_said.Given as goal

abbrev pub invariant-loop-row : goal.invariant-loop-row
invariant-loop-row g l = length l.world.seen ≡ 3
