use Rattle.std.proofs.Common.{◌≡◌, take}
use Rattle.swh_model.specs.Limits.{store_length}
use Rattle.swh_model.proofs.lengths.length_of_store.Given as goal

abbrev pub invariant-loop-event : goal.invariant-loop-event
invariant-loop-event l = l.sum ≡ store_length (take l.event-index l.history)
