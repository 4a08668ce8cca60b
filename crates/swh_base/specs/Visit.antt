-- Visits of origins: their kinds, and the statuses that one has had.
use Rattle.std.specs.Prelude.{◌≡◌, ℕ, Option, None, List, [], ◌∷◌, codes}
use Rattle.swh_base.specs.declared.visit.VisitKind.{VisitKind}
use Rattle.swh_base.specs.declared.visit.VisitKind.TheVariants.{Fast, Dir, Batch}
use Rattle.swh_base.specs.declared.visit.Status.{Status}
use Rattle.swh_base.specs.declared.visit.Status.TheVariants.{Created, Ongoing, Full, Partial, NotFound, Failed}

-- the word of a visit's kind
abbrev pub visit_kind_word : VisitKind → List ℕ
visit_kind_word Fast = codes "fast"
visit_kind_word Dir = codes "dir"
visit_kind_word Batch = codes "batch"

-- the word of a visit's status
abbrev pub status_word : Status → List ℕ
status_word Created = codes "created"
status_word Ongoing = codes "ongoing"
status_word Full = codes "full"
status_word Partial = codes "partial"
status_word NotFound = codes "not_found"
status_word Failed = codes "failed"

-- A visit's end: nothing comes after it.
abbrev pub IsFinal : Status → Type 0
IsFinal Created = ⊥
IsFinal Ongoing = ⊥
IsFinal Full = Unit {0}
IsFinal Partial = Unit {0}
IsFinal NotFound = Unit {0}
IsFinal Failed = Unit {0}

-- the statuses of a visit, the oldest first, each with its snapshot
abbrev pub Statuses : Type 0
Statuses = List (Status × Option (List ℕ))

-- the last status, or created where there is none
abbrev pub last_status : Statuses → Status
last_status [] = Created
last_status (s ∷ []) = s.0
last_status (s ∷ t ∷ ss) = last_status (t ∷ ss)

-- the last status with its snapshot, or created where there is none
abbrev pub last_mark : Statuses → Status × Option (List ℕ)
last_mark [] = (Created, None)
last_mark (s ∷ []) = s
last_mark (s ∷ t ∷ ss) = last_mark (t ∷ ss)

-- Only the last of them may be final.
abbrev pub OnlyLastIsFinal : Statuses → Type 0
OnlyLastIsFinal [] = Unit {0}
OnlyLastIsFinal (s ∷ []) = Unit {0}
OnlyLastIsFinal (s ∷ t ∷ ss) = (IsFinal s.0 → ⊥) × OnlyLastIsFinal (t ∷ ss)

-- The first of them is created.
abbrev pub BeginsCreated : Statuses → Type 0
BeginsCreated [] = ⊥
BeginsCreated (s ∷ ss) = s ≡ (Created, None)
