use Rattle.swh_inputs.specs.Batching.{BatchMayGoOn}
use Rattle.swh_loader_tests.proofs.read_batches.reads_so.Given as goal

-- The batch may be read on.
abbrev pub invariant-parts : goal.invariant-parts
invariant-parts l = BatchMayGoOn l.input.parts
