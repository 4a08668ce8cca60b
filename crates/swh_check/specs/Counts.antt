-- What a report counts of an archive, and of the history that made it.
use Rattle.std.specs.Prelude.{◌≡◌, ◌⊎◌, ◌↔◌, ℕ, ◌+◌, Some, List, [], ◌∷◌, Contains, length}
use Rattle.std.specs.List.Sorted.{IsStrictlySortedBy}
use Rattle.std.specs.FinMap as finite
use Rattle.swh_base.specs.declared.name.Name.{Name}
use Rattle.swh_base.specs.declared.visit.Status.TheVariants.{Full}
use Rattle.swh_base.specs.Name.{name_cmp}
use Rattle.swh_base.specs.Snapshot.{snapshot_name}
use Rattle.swh_model.specs.declared.event.Visit.{Visit}
use Rattle.swh_model.specs.declared.event.Event.{Event}
use Rattle.swh_model.specs.declared.event.EventKind.{EventKind}
use Rattle.swh_model.specs.declared.event.EventKind.TheVariants.{Open, Mark}
use Rattle.swh_model.specs.Entries.{entries_of}
use Rattle.swh_model.specs.Archive.{Archive, Origins, visits_of, Reaches}
use Rattle.swh_check.specs.declared.report.Report.{Report}

-- the visits of these origins together
abbrev pub visits_together : List (List ℕ × List Visit) → ℕ
visits_together [] = 0
visits_together (origin ∷ origins) = length origin.1 + visits_together origins

-- the visits of all origins together
abbrev pub visit_count : Origins → ℕ
visit_count origins = visits_together (finite.entries origins)

-- The visits of an origin have a full status with the snapshot.
pub record HasFull (visits : List Visit) (id : List ℕ) : Type 0 where
  pub visit : Visit
  pub there : Contains visits visit
  pub full : Contains visit.statuses (Full, Some id)

-- A visit has a full status with the snapshot.
pub record IsFullSnapshot (origins : Origins) (id : List ℕ) : Type 0 where
  pub origin : List ℕ
  pub full : HasFull (visits_of origins origin) id

-- The name is reached from a full visit's snapshot.
pub record IsReachedFull (a : Archive) (n : Name) : Type 0 where
  pub snapshot : List ℕ
  pub full : IsFullSnapshot a.origins snapshot
  pub reached : Reaches a.bodies (snapshot_name snapshot) n

-- The report counts the archive: the names that are held, the names that are reached from full visits' snapshots, each
-- once, and the visits of all origins.
pub record IsReport (a : Archive) (report : Report) : Type 0 where
  pub objects : report.objects ≡ finite.len a.bodies
  pub visits : report.visits ≡ visit_count a.origins
  pub names : List Name
  pub ascending : IsStrictlySortedBy name_cmp names
  pub are : (n : Name) → Contains names n ↔ IsReachedFull a n
  pub closed : report.closed ≡ length names

-- ---- the same of a history

-- the objects that were added
abbrev pub bodies_by : EventKind → ℕ
bodies_by what = length (entries_of what)

abbrev pub bodies_in : List Event → ℕ
bodies_in [] = 0
bodies_in (e ∷ h) = bodies_by e.what + bodies_in h

-- the visits that were opened
abbrev pub opened_by : EventKind → ℕ
opened_by (Open origin kind date) = 1
opened_by _ = 0

abbrev pub opened_in : List Event → ℕ
opened_in [] = 0
opened_in (e ∷ h) = opened_by e.what + opened_in h

-- The event makes a visit full with the snapshot.
abbrev pub IsFullMark : EventKind → List ℕ → Type 0
IsFullMark (Mark origin visit status snapshot) id = (status ≡ Full) × (snapshot ≡ Some id)
IsFullMark _ id = ⊥

-- One of the events makes a visit full with the snapshot.
abbrev pub IsFullIn : List Event → List ℕ → Type 0
IsFullIn [] id = ⊥
IsFullIn (e ∷ h) id = IsFullMark e.what id ⊎ IsFullIn h id
