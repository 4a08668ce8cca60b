use Rattle.std.proofs.Common.{◌≡◌, ◌+◌, take}
use Rattle.swh_model.specs.Limits.{run_length}
use Rattle.swh_keeper.specs.Places.{IsUnnamed}
use Rattle.swh_keeper.proofs.finding.place_in.Given as goal

abbrev pub invariant-loop-entry : goal.invariant-loop-entry
invariant-loop-entry l = record {
  at : l.at ≡ l.from + run_length (take l.entry-index l.entries);
  none : IsUnnamed l.name (take l.entry-index l.entries);
}
