use Rattle.std.proofs.Common.{◌≡◌, take}
use Rattle.swh_format.specs.StoredObject.{coded_run}
use Rattle.swh_format.proofs.stored_object.run_of_entries.Given as goal

abbrev pub invariant-loop-entry : goal.invariant-loop-entry
invariant-loop-entry l = l.run.items ≡ coded_run (take l.entry-index l.entries)
