use Rattle.std.proofs.Common.{◌≡◌, take}
use Rattle.swh_model.specs.Limits.{store_length}
use Rattle.swh_keeper.specs.Places.{AreUnnamed}
use Rattle.swh_keeper.proofs.finding.place_of.Given as goal

abbrev pub invariant-loop-event : goal.invariant-loop-event
invariant-loop-event l = record {
  at : l.at ≡ store_length (take l.event-index l.history);
  none : AreUnnamed l.name (take l.event-index l.history);
}
