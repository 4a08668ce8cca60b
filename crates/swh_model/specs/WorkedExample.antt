-- A worked history: the first visit of an origin, and what is answered to wishes over it.
use Rattle.std.specs.Prelude.{ℕ, None, List, [], ◌∷◌, ◌++◌, replicate, codes}
use Rattle.swh_base.specs.declared.kind.Kind.TheVariants.{Revision, Snapshot}
use Rattle.swh_base.specs.declared.name.Name.{Name}
use Rattle.swh_base.specs.declared.entry.Entry.{Entry}
use Rattle.swh_base.specs.declared.visit.VisitKind.TheVariants.{Fast}
use Rattle.swh_base.specs.declared.visit.Status.TheVariants.{Failed}
use Rattle.swh_model.specs.declared.event.Event.{Event}
use Rattle.swh_model.specs.declared.event.EventKind.{EventKind}
use Rattle.swh_model.specs.declared.event.EventKind.TheVariants.{Batch, Open, Mark}
use Rattle.swh_model.specs.declared.event.Wish.{Wish}
use Rattle.swh_model.specs.declared.event.Wish.TheVariants as wished
use Rattle.swh_base.specs.Snapshot.{SnapshotBranch, ToObject, snapshot_text}

abbrev pub url : List ℕ
url = codes "https://e.org/p"

-- the origin is visited for the first time
abbrev pub opening : EventKind
opening = Open url Fast 1000000000

-- and the wish for it
abbrev pub wish_to_open : Wish
wish_to_open = wished.Open url Fast 1000000000

abbrev pub opened_once : List Event
opened_once = record { by = 1; what = opening } ∷ []

-- a revision that nobody has
abbrev pub revision : Name
revision = record { kind = Revision; id = replicate 20 17 }

-- the one branch `b` to it
abbrev pub branch_to_it : SnapshotBranch
branch_to_it = record { name = codes "b"; target = ToObject revision }

abbrev pub snapshot_body : List ℕ
snapshot_body = snapshot_text (branch_to_it ∷ [])

-- a snapshot of it, under a name that some namer gives
abbrev pub snapshot_of_it : List ℕ → Entry
snapshot_of_it id = record { name = record { kind = Snapshot; id = id }; body = snapshot_body; kids = revision ∷ [] }

-- the snapshot is held
abbrev pub with_snapshot : List ℕ → List Event
with_snapshot id = opened_once ++ record { by = 1; what = Batch (snapshot_of_it id ∷ []) } ∷ []

-- the visit failed
abbrev pub failed_once : List Event
failed_once = opened_once ++ record { by = 1; what = Mark url 1 Failed None } ∷ []

-- the event of this kind, by the worker `by`
abbrev pub event_by : ℕ → EventKind → Event
event_by by what = record { by = by; what = what }
