-- What is in memory of a history, what an event makes of it, and why events have no replay.
use Rattle.std.specs.Prelude.{◌≡◌, ℕ, ◌+◌, ◌<◌, ◌≤◌, ◌^◌, List, ◌∷◌, ◌++◌, length}
use Rattle.std.specs.List.{AllByRecursion}
use Rattle.swh_base.specs.declared.kind.Kind.{Kind}
use Rattle.swh_model.specs.declared.event.Event.{Event}
use Rattle.swh_model.specs.declared.event.EventKind.{EventKind}
use Rattle.swh_model.specs.Entries.{entries_of}
use Rattle.swh_model.specs.Archive.{Archive}
use Rattle.swh_model.specs.Limits.{store_length, ledger_length}
use Rattle.swh_model.specs.Step.{HasItsChildren, AreNew, May, IsHistory, after, replay}
use Rattle.swh_model.specs.Happens.{HasItsVisitKind}
use Rattle.swh_replay.specs.Happened.{archive_in}
use Rattle.swh_replay.specs.declared.replayed.Replayed.{Replayed}
use Rattle.swh_replay.specs.declared.replaying.ReplayFault.{ReplayFault}
use Rattle.swh_replay.specs.declared.replaying.ReplayFault.TheVariants.{Refused, Memory}

-- the archive that is in memory
abbrev pub archive_of : Replayed → Archive
archive_of r = archive_in r.store r.visits

-- The maps are the replay of the history, and these are the ends of what the files tell of it: the store's end, and
-- the place of the ledger's closed gate.
pub record IsReplayOf (r : Replayed) (h : List Event) : Type 0 where
  pub bodies : r.store.bodies ≡ (replay h).bodies
  pub visits : r.visits ≡ (replay h).origins
  pub store : r.store_end ≡ store_length h
  pub ledger : r.ledger_end + 1 ≡ ledger_length h

-- Both ends are within the files' limits.
pub record IsInFiles (r : Replayed) : Type 0 where
  pub store_fits : r.store_end ≤ 2 ^ 62
  pub ledger_fits : r.ledger_end < 2 ^ 62

-- What carrying an event out in memory asks of it: its entries have their children and are new, and the visit that it marks,
-- if it marks one, is there.
pub record MayAdvance (r : Replayed) (what : EventKind) : Type 0 where
  pub good : AllByRecursion HasItsChildren (entries_of what)
  pub new : AreNew r.store.bodies (entries_of what)
  pub there : HasItsVisitKind (archive_of r) what

-- The maps are those after the event, and the ends are as they were.
pub record Advances (old : Replayed) (e : Event) (new : Replayed) : Type 0 where
  pub archive : archive_of new ≡ after (archive_of old) e
  pub store_end : new.store_end ≡ old.store_end
  pub ledger_end : new.ledger_end ≡ old.ledger_end

-- Nothing in memory changed.
pub record IsSameReplayed (old new : Replayed) : Type 0 where
  pub same : new ≡ old

module _ (id_of : Kind → List ℕ → List ℕ) where
  -- The event of this number, from 1, may not happen after those before it, which are a history.
  pub record IsFirstRefused (events : List Event) (number : ℕ) : Type 0 where
    pub before : List Event
    pub event : Event
    pub more : List Event
    pub are : events ≡ before ++ event ∷ more
    pub number_is : number ≡ length before + 1
    pub history : IsHistory id_of before
    pub may_not : May id_of (replay before) event → ⊥

  -- Why the events have no replay: it says nothing where memory ran out.
  abbrev pub IsReplayFault : List Event → ReplayFault → Type 0
  IsReplayFault events (Refused number) = IsFirstRefused events number
  IsReplayFault events Memory = Unit {0}
