-- The events that a load may add, and the plans that ask for them.
use Rattle.std.specs.Prelude.{◌≡◌, ◌≢◌, ℕ, Bool, true, Option, List, [], ◌∷◌, ◌++◌, Contains}
use Rattle.std.specs.List.{AllByRecursion}
use Rattle.swh_base.specs.declared.entry.Entry.{Entry}
use Rattle.swh_base.specs.declared.visit.Status.{Status}
use Rattle.swh_base.specs.declared.visit.VisitKind.{VisitKind}
use Rattle.swh_base.specs.Visit.{Statuses}
use Rattle.swh_model.specs.declared.event.Event.{Event}
use Rattle.swh_model.specs.declared.event.EventKind.{EventKind}
use Rattle.swh_model.specs.declared.event.EventKind.TheVariants.{Batch, Open, Mark}
use Rattle.swh_model.specs.declared.event.Wish.{Wish}
use Rattle.swh_model.specs.declared.event.Wish.TheVariants as wished
use Rattle.swh_ingest.specs.declared.visiting.OpenVisit.{OpenVisit}

-- who loads which origin, by which kind of input, and when
pub record Attempt : Type 0 where
  pub by : ℕ
  pub origin : List ℕ
  pub kind : VisitKind
  pub date : ℕ

-- the attempt of the worker `by` to load this origin by an input of this kind on this date
abbrev pub attempt : ℕ → List ℕ → VisitKind → ℕ → Attempt
attempt by origin kind date = record { by = by; origin = origin; kind = kind; date = date }

-- who opened a visit, of which origin, of which kind, and when
abbrev pub attempt_of : OpenVisit → Attempt
attempt_of visit = attempt visit.by visit.origin.now visit.kind visit.date

-- the event that opens its visit
abbrev pub open_event : Attempt → Event
open_event a = record { by = a.by; what = Open a.origin a.kind a.date }

-- what marks its visit with this number
abbrev pub mark_of : Attempt → ℕ → Status → Option (List ℕ) → EventKind
mark_of a number status snapshot = Mark a.origin number status snapshot

-- This happened.
abbrev pub IsKind : EventKind → EventKind → Type 0
IsKind x what = what ≡ x

-- This was asked for.
abbrev pub IsWished : Wish → Wish → Type 0
IsWished x wish = wish ≡ x

-- Each is one of these objects.
abbrev pub AreAmong : List Entry → List Entry → Type 0
AreAmong objects entries = AllByRecursion (Contains objects) entries

-- Some of these objects were added. There may be none where others added them since they were looked at.
pub record IsBatchAmong (alone : Bool) (objects : List Entry) (what : EventKind) : Type 0 where
  pub entries : List Entry
  pub is : what ≡ Batch entries
  pub some : alone ≡ true → entries ≢ []
  pub among : AreAmong objects entries

-- It was asked to add some of these objects.
pub record IsBatchAsked (objects : List Entry) (wish : Wish) : Type 0 where
  pub entries : List Entry
  pub is : wish ≡ wished.Batch entries
  pub some : entries ≢ []
  pub among : AreAmong objects entries

-- the status that an event of this kind gave, where it gave one
abbrev pub marks_in : EventKind → Statuses
marks_in (Mark origin visit status snapshot) = (status, snapshot) ∷ []
marks_in what = []

-- the statuses that these events gave, in their order
abbrev pub marks_of : List Event → Statuses
marks_of [] = []
marks_of (e ∷ es) = marks_in e.what ++ marks_of es
