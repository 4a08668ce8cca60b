-- What a loader knows of its visit.
use Rattle.std.specs.Prelude.{◌≡◌, ℕ, ◌+◌, ◌<◌, Option, Some, List, [], ◌∷◌, ◌++◌, length}
use Rattle.swh_base.specs.declared.visit.Status.{Status}
use Rattle.swh_base.specs.Visit.{Statuses}
use Rattle.swh_model.specs.declared.event.Event.{Event}
use Rattle.swh_model.specs.declared.event.Visit.{Visit}
use Rattle.swh_model.specs.Archive.{visits_of}
use Rattle.swh_model.specs.Step.{visit_at, replay}
use Rattle.swh_ingest.specs.Knowing.{Known}
use Rattle.swh_ingest.specs.Owning.{Attempt}

-- the number of an origin's next visit
abbrev pub next_visit : List Event → List ℕ → ℕ
next_visit h origin = length (visits_of (replay h).origins origin) + 1

-- the visit of an attempt
abbrev pub visit_with : Attempt → ℕ → Statuses → Visit
visit_with a number statuses = record { number = number; date = a.date; kind = a.kind; by = a.by; statuses = statuses }

-- The origin's visit with this number was opened by this attempt, and has these statuses.
pub record IsVisit (h : List Event) (a : Attempt) (number : ℕ) (statuses : Statuses) : Type 0 where
  pub positive : 0 < number
  pub there : visit_at (visits_of (replay h).origins a.origin) number ≡ Some (visit_with a number statuses)

-- The loader's visit is there.
pub record IsMine (k : Known) (a : Attempt) (number : ℕ) : Type 0 where
  pub by_one : k.number ≡ a.by
  pub statuses : Statuses
  pub visit : IsVisit k.front a number statuses

-- The last status of the visit, with its snapshot.
pub record HasLast (h : List Event) (a : Attempt) (number : ℕ) (last : Status × Option (List ℕ)) : Type 0 where
  pub before_it : Statuses
  pub visit : IsVisit h a number (before_it ++ last ∷ [])
