-- The device calls that were made on a keeper's files between two of its states.
use Rattle.std.specs.Prelude.{◌≡◌, ℕ, Some, None, List, ◌++◌}
use Rattle.swh_base.specs.declared.kind.Kind.{Kind}
use Rattle.swh_outside.specs.Disk.{File}
use Rattle.swh_outside.specs.Files.{Files, files_of, files_done}
use Rattle.swh_model.specs.declared.event.Event.{Event}
use Rattle.swh_segment.specs.Calls.{all_calls}
use Rattle.swh_segment.specs.Moments.{BreaksAtEvent}
use Rattle.swh_keeper.specs.Kept.{Kept}

-- a keeper's two files
abbrev pub kept_files : {D : Type 0} → (D → File) → Kept D → Files
kept_files file k = files_of (file k.ledger) (file k.store)

-- The calls of these events were made, in order; where a disk failed all of them were, and then those of one event
-- more, up to one that failed.
pub record MakesCallsOf {D : Type 0} (id : Kind → List ℕ → List ℕ) (file : D → File) (IsNext : Event → Type 0) (more : List Event) (old new : Kept D) : Type 0 where
  pub made : new.wounded ≡ old.wounded → kept_files file new ≡ files_done (all_calls old.history more) (kept_files file old)
  pub broken : old.wounded ≡ None → (n : ℕ) → new.wounded ≡ Some n
      → BreaksAtEvent id IsNext new.history (files_done (all_calls old.history more) (kept_files file old)) (kept_files file new)

-- The calls of the events that were added were made.
pub record MakesCalls {D : Type 0} (id : Kind → List ℕ → List ℕ) (file : D → File) (IsNext : Event → Type 0) (old new : Kept D) : Type 0 where
  pub more : List Event
  pub behind : new.history ≡ old.history ++ more
  pub calls : MakesCallsOf id file IsNext more old new
