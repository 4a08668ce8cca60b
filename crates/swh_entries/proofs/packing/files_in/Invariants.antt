use Rattle.std.proofs.Common.{◌≤◌}
use Rattle.swh_entries.proofs.packing.files_in.Given as goal

abbrev pub invariant-loop-e : goal.invariant-loop-e
invariant-loop-e l = l.files ≤ l.e-index
