use Rattle.std.proofs.Common.{◌+◌, ◌≤◌, length, vec_len, vec_capacity}
use Rattle.swh_core.proofs.Runs.{RunSoFar}
use Rattle.swh_core.proofs.world.World.run.Given as goal

abbrev pub invariant-steps : goal.invariant-steps
invariant-steps g l = record {
  room : vec_len l.told + length l.left.items ≤ vec_capacity l.told;
  so_far : RunSoFar g.N.Namer.id_of l.fn.steps.items l.fn.self l.left.items l.told.items l.self;
}

abbrev pub decreases-steps : goal.decreases-steps
decreases-steps g l = length l.left.items
