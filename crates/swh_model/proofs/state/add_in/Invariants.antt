use Rattle.std.proofs.Common.{◌≡◌, ◌++◌, take, All}
use Rattle.swh_model.specs.Step.{HasItsChildren}
use Rattle.swh_model.proofs.state.add_in.Given as goal

abbrev pub invariant-loop-entry : goal.invariant-loop-entry
invariant-loop-entry l = record {
  added_so_far : l.entries.items ≡ l.initial.entries.items ++ take l.entry-index l.batch;
  good : All HasItsChildren l.entries.items;
}
