-- Why a step over a keeper stops, and what is left then.
use Rattle.std.specs.Prelude.{◌≡◌, ℕ, ◌+◌, Some, None, List, ◌++◌, length}
use Rattle.swh_base.specs.declared.kind.Kind.{Kind}
use Rattle.swh_base.specs.declared.visit.Which.{Which}
use Rattle.swh_segment.specs.Makes.{ADiskFailed}
use Rattle.swh_model.specs.declared.event.Event.{Event}
use Rattle.swh_model.specs.Grows.{IsWithin}
use Rattle.swh_model.specs.Judge.{FilePasses}
use Rattle.swh_model.specs.Step.{May, replay}
use Rattle.swh_keeper.specs.Kept.{Kept}
use Rattle.swh_ingest.specs.declared.stop.Stop.{Stop}
use Rattle.swh_ingest.specs.declared.stop.Stop.TheVariants as why

-- Events were added, no disk has failed, and all bodies that were held are held still.
pub record KeepsAll {D : Type 0} (old new : Kept D) : Type 0 where
  pub more : List Event
  pub added : new.history ≡ old.history ++ more
  pub unwounded : new.wounded ≡ None
  pub within : IsWithin (replay old.history).bodies (replay new.history).bodies

-- A disk had failed before, and nothing is changed.
pub record IsStoppedBefore {D : Type 0} (old new : Kept D) : Type 0 where
  pub first : ℕ
  pub wounded : old.wounded ≡ Some first
  pub same : new ≡ old

-- A disk failed at the event after the history.
pub record IsFaulted {D : Type 0} (faults : D → ℕ) (old new : Kept D) : Type 0 where
  pub before_it : old.wounded ≡ None
  pub wounded : new.wounded ≡ Some (length new.history + 1)
  pub rose : ADiskFailed (faults old.store) (faults new.store) (faults old.ledger) (faults new.ledger)

-- One of the two files has no room after the history for an event that was tried, and that may happen next.
pub record IsFileFull {D : Type 0} (id : Kind → List ℕ → List ℕ) (IsTried : Event → Type 0) (old new : Kept D) (which : Which) (number : ℕ) : Type 0 where
  pub before_it : old.wounded ≡ None
  pub unwounded : new.wounded ≡ None
  pub event : Event
  pub tried : IsTried event
  pub may : May id (replay new.history) event
  pub passes : FilePasses new.history event.what which number

-- Why a step stops that tries to add events for which `IsTried` holds. No one else ends its visit.
abbrev pub StopsFor : {D : Type 0} → (Kind → List ℕ → List ℕ) → (D → ℕ) → (Event → Type 0) → Kept D → Kept D → Stop → Type 0
StopsFor id faults IsTried old new (why.Ended status) = ⊥
StopsFor id faults IsTried old new why.DiskFault = IsFaulted faults old new
StopsFor id faults IsTried old new why.Wounded = IsStoppedBefore old new
StopsFor id faults IsTried old new (why.Limit which number) = IsFileFull id IsTried old new which number
StopsFor id faults IsTried old new why.Memory = new.wounded ≡ old.wounded
