use Rattle.std.proofs.Common.{◌≡◌, length}
use Rattle.std.specs.List.{AllByRecursion}
use Rattle.swh_model.specs.Step.{HasItsChildren}
use Rattle.swh_keeper_tests.proofs.stores.contents.Given as goal

abbrev pub invariant-loop-bytes : goal.invariant-loop-bytes
invariant-loop-bytes l = record {
  good : AllByRecursion HasItsChildren l.entries.items;
  count : length l.entries.items ≡ l.bytes-index;
}
