use Rattle.std.proofs.Common.{◌≡◌, ℕ, List, take, drop}
use Rattle.std.specs.List.{AllByRecursion}
use Rattle.swh_base.specs.declared.kind.Kind.{Kind}
use Rattle.swh_model.specs.Step.{IsHistory, replay}
use Rattle.swh_model.specs.Happens.{IsNamedEvent}
use Rattle.swh_replay.specs.Happened.{archive_in, all_entries, AreWhole}
use Rattle.swh_replay.proofs.replaying.replay_all.Given as goal

abbrev pub invariant-loop-place : goal.invariant-loop-place
invariant-loop-place l = record {
  archive_is : archive_in l.preloaded.shown l.visits ≡ replay (take l.place l.events);
  rest_is : l.preloaded.rest ≡ all_entries (drop l.place l.events);
  may : (id_of : Kind → List ℕ → List ℕ) → AllByRecursion (IsNamedEvent id_of) l.events → IsHistory id_of (take l.place l.events);
  whole : AreWhole l.preloaded.shown.bodies l.closed;
}
