use Rattle.std.proofs.Common.{◌≡◌, take}
use Rattle.swh_model.specs.Limits.{run_length}
use Rattle.swh_model.proofs.lengths.length_of_run.Given as goal

abbrev pub invariant-loop-entry : goal.invariant-loop-entry
invariant-loop-entry l = l.sum ≡ run_length (take l.entry-index l.entries)
