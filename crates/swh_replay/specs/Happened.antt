-- One event of a replay, the entries of all events, and the names that are known to be closed.
use Rattle.std.specs.Prelude.{◌≡◌, List, [], ◌∷◌, ◌++◌}
use Rattle.swh_base.specs.declared.name.Name.{Name}
use Rattle.swh_base.specs.declared.entry.Entry.{Entry}
use Rattle.swh_closure.specs.Whole.{IsWhole}
use Rattle.swh_model.specs.declared.event.Event.{Event}
use Rattle.swh_model.specs.Entries.{entries_of}
use Rattle.swh_model.specs.Archive.{Archive, Bodies, Origins, IsHeld, IsChild}
use Rattle.swh_model.specs.Step.{after}
use Rattle.swh_model.specs.Happens.{CanHappen}
use Rattle.swh_store.specs.Stored.{Stored}

-- the archive of a store and of visits
abbrev pub archive_in : Stored → Origins → Archive
archive_in store visits = record { bodies = store.bodies; origins = visits }

-- the entries of all batches, in their order
abbrev pub all_entries : List Event → List Entry
all_entries [] = []
all_entries (e ∷ es) = entries_of e.what ++ all_entries es

-- The event may happen to the first archive, its names aside, and makes the second of it.
pub record Happened (old : Archive) (e : Event) (new : Archive) : Type 0 where
  pub can : CanHappen old e
  pub now : new ≡ after old e

-- Each of these names is held, and each child of one is one of them.
abbrev pub AreWhole : Bodies → List Name → Type 0
AreWhole bodies = IsWhole (IsHeld bodies) (IsChild bodies)
