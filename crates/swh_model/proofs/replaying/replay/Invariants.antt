use Rattle.std.proofs.Common.{◌≡◌, ℕ, List, take}
use Rattle.std.specs.List.{AllByRecursion}
use Rattle.swh_base.specs.declared.kind.Kind.{Kind}
use Rattle.swh_model.specs.Step.{IsHistory, replay}
use Rattle.swh_model.specs.Happens.{IsNamedEvent}
use Rattle.swh_model.proofs.replaying.replay.Given as goal

abbrev pub invariant-loop-event : goal.invariant-loop-event
invariant-loop-event l = record {
  archive_is : l.state ≡ replay (take l.event-index l.history);
  may : (id_of : Kind → List ℕ → List ℕ) → AllByRecursion (IsNamedEvent id_of) l.history → IsHistory id_of (take l.event-index l.history);
}
