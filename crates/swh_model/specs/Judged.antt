-- Parts of a verdict.
use Rattle.std.specs.Prelude.{◌≡◌, ◌≢◌, ◌⊎◌, ℕ, ◌+◌, ◌<◌, Option, Some, None, List, length}
use Rattle.swh_base.specs.declared.name.Name.{Name}
use Rattle.swh_base.specs.declared.visit.Status.{Status}
use Rattle.swh_base.specs.declared.visit.Status.TheVariants.{Full}
use Rattle.swh_base.specs.declared.visit.Which.{Which}
use Rattle.swh_model.specs.declared.event.Visit.{Visit}
use Rattle.swh_model.specs.declared.event.Event.{Event}
use Rattle.swh_model.specs.declared.event.EventKind.{EventKind}
use Rattle.swh_model.specs.declared.event.No.{No}
use Rattle.swh_model.specs.declared.event.No.TheVariants.{NoVisit, NotYours, Ended, NoSnapshot, NotClosed}
use Rattle.swh_model.specs.Archive.{Bodies, body_of, IsHeld, IsClosed}
use Rattle.swh_model.specs.Limits.{stored_length, store_length, payload_length, ledger_length}
use Rattle.swh_model.specs.Step.{visit_at}
use Rattle.swh_base.specs.Snapshot.{snapshot_name}
use Rattle.swh_base.specs.Visit.{IsFinal, last_status}
use Rattle.swh_model.specs.Judge.{which_rank}
use Rattle.swh_model.specs.Walk.{IsGap}

-- The number passes its limit, and none that is looked at before does.
pub record IsFirstOf (Passes : Which → ℕ → Type 0) (limit : Which × ℕ) : Type 0 where
  pub passes : Passes limit.0 limit.1
  pub before_it : (w : Which) (n : ℕ) → which_rank w < which_rank limit.0 → Passes w n → ⊥

-- No number passes its limit.
abbrev pub NonePasses : (Which → ℕ → Type 0) → Type 0
NonePasses Passes = (w : Which) (n : ℕ) → Passes w n → ⊥

-- Both files end here, and this is what the event adds to them.
pub record AreLengths (h : List Event) (event : EventKind) (store_end run end record_length : ℕ) : Type 0 where
  pub store : store_end ≡ store_length h
  pub run_is : run ≡ stored_length event
  pub ledger : end + 1 ≡ ledger_length h
  pub record_is : record_length ≡ 6 + payload_length event

-- The visit of this number stands in the list.
abbrev pub IsAt : List Visit → ℕ → Visit → Type 0
IsAt visits number v = (0 < number) × (visit_at visits number ≡ Some v)

-- Why a visit may not be marked by somebody.
abbrev pub IsVisitRefusal : List Visit → ℕ → ℕ → No → Type 0
IsVisitRefusal visits by number (NoVisit have) = (have ≡ length visits) × ((number ≡ 0) ⊎ (have < number))
IsVisitRefusal visits by number (NotYours other) = (v : Visit) × IsAt visits number v × (other ≡ v.by) × (v.by ≢ by)
IsVisitRefusal visits by number (Ended last) = (v : Visit) × IsAt visits number v × (v.by ≡ by) × (last ≡ last_status v.statuses) × IsFinal last
IsVisitRefusal visits by number _ = ⊥

-- The visit is there, was opened by the worker `by`, and has not ended.
pub record MayBeMarked (visits : List Visit) (by number : ℕ) : Type 0 where
  pub visit : Visit
  pub there : IsAt visits number visit
  pub opened : visit.by ≡ by
  pub unended : IsFinal (last_status visit.statuses) → ⊥

-- The refusal is that the name is not closed: its parent is reached from the name and held, and its child is not held.
abbrev pub IsGapRefusal : Bodies → Name → No → Type 0
IsGapRefusal bodies name (NotClosed parent child) = IsGap bodies name parent child
IsGapRefusal bodies name _ = ⊥

-- Why a status may not have this snapshot.
abbrev pub IsSnapshotRefusal : Bodies → Status → Option (List ℕ) → No → Type 0
IsSnapshotRefusal bodies status snapshot (NoSnapshot name) = (id : List ℕ) × (snapshot ≡ Some id) × (name ≡ snapshot_name id) × (body_of bodies name ≡ None)
IsSnapshotRefusal bodies status snapshot (NotClosed parent child) =
    (status ≡ Full) × (id : List ℕ) × (snapshot ≡ Some id) × IsHeld bodies (snapshot_name id) × IsGap bodies (snapshot_name id) parent child
IsSnapshotRefusal bodies status snapshot _ = ⊥

-- The snapshot, if any, is held, and closed where the visit is full.
pub record SuitsStatus (bodies : Bodies) (status : Status) (snapshot : Option (List ℕ)) : Type 0 where
  pub held : (id : List ℕ) → snapshot ≡ Some id → IsHeld bodies (snapshot_name id)
  pub closed : (id : List ℕ) → snapshot ≡ Some id → status ≡ Full → IsClosed bodies (snapshot_name id)
