use Rattle.std.proofs.Common.{◌≡◌, take}
use Rattle.swh_model.specs.Limits.{ledger_length}
use Rattle.swh_model.proofs.lengths.length_of_ledger.Given as goal

abbrev pub invariant-loop-event : goal.invariant-loop-event
invariant-loop-event l = l.sum ≡ ledger_length (take l.event-index l.history)
