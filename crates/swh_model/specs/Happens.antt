-- What the plain calls ask of an event, and whether it may happen, names aside.
use Rattle.std.specs.Prelude.{ℕ, ◌<◌, ◌≤◌, List, length, Err}
use Rattle.std.specs.List.{AllByRecursion}
use Rattle.swh_base.specs.declared.kind.Kind.{Kind}
use Rattle.swh_model.specs.declared.event.Event.{Event}
use Rattle.swh_model.specs.declared.event.EventKind.{EventKind}
use Rattle.swh_model.specs.declared.event.EventKind.TheVariants.{Mark}
use Rattle.swh_model.specs.declared.event.Wish.{Wish}
use Rattle.swh_model.specs.declared.fault.JudgeFault.{JudgeFault}
use Rattle.swh_model.specs.declared.fault.JudgeFault.TheVariants.{Refused, Memory}
use Rattle.swh_model.specs.Archive.{Archive, Bodies, visits_of}
use Rattle.swh_base.specs.declared.entry.Entry.{Entry}
use Rattle.swh_model.specs.Entries.{entries_of}
use Rattle.swh_model.specs.Limits.{IsWithinLimits}
use Rattle.swh_model.specs.Step.{HasItsChildren, HasItsChildrenAndName, AreNew, MayWhere, IsHistory}
use Rattle.swh_model.specs.declared.event.No.TheVariants.{Limit}
use Rattle.swh_model.specs.Judge.{IsVerdict, FilePasses}
use Rattle.swh_model.specs.Judged.{IsFirstOf}

abbrev pub IsGoodKind : EventKind → Type 0
IsGoodKind what = AllByRecursion HasItsChildren (entries_of what)

-- Each entry of the event has a body of its kind, with that body's children.
abbrev pub IsGoodEvent : Event → Type 0
IsGoodEvent e = IsGoodKind e.what

module _ (id_of : Kind → List ℕ → List ℕ) where
  abbrev pub IsNamedKind : EventKind → Type 0
  IsNamedKind what = AllByRecursion (HasItsChildrenAndName id_of) (entries_of what)

  -- Each entry of the event has a body of its kind, with that body's children and id.
  abbrev pub IsNamedEvent : Event → Type 0
  IsNamedEvent e = IsNamedKind e.what

-- A batch of these entries may be added, names aside.
abbrev pub CanBeAdded : Bodies → List Entry → Type 0
CanBeAdded bodies entries = IsWithinLimits entries × AreNew bodies entries

abbrev pub CanHappenKind : Archive → ℕ → EventKind → Type 0
CanHappenKind = MayWhere CanBeAdded

-- The event may happen, if each of its entries has a body of its kind, with that body's children and id.
abbrev pub CanHappen : Archive → Event → Type 0
CanHappen a e = CanHappenKind a e.by e.what

-- The visit that what happens marks, if it marks one, is there.
abbrev pub HasItsVisitKind : Archive → EventKind → Type 0
HasItsVisitKind a (Mark origin visit status snapshot) = (0 < visit) × (visit ≤ length (visits_of a.origins origin))
HasItsVisitKind a _ = Unit {0}

-- The visit that the event marks, if it marks one, is there.
abbrev pub HasItsVisit : Archive → Event → Type 0
HasItsVisit a e = HasItsVisitKind a e.what

-- The list is a history, with the names of some namer.
pub record IsSomeHistory (h : List Event) : Type 0 where
  pub id_of : Kind → List ℕ → List ℕ
  pub is : IsHistory id_of h

-- The first cause against the wish.
abbrev pub IsRefusedWish : List Event → ℕ → Wish → JudgeFault → Type 0
IsRefusedWish h by wish (Refused cause) = IsVerdict h by wish (Err cause)
IsRefusedWish h by wish Memory = Unit {0}

-- The event would make a file too long, and this is the first.
abbrev pub PassesFile : List Event → EventKind → JudgeFault → Type 0
PassesFile h event (Refused (Limit which number)) = IsFirstOf (FilePasses h event) (which, number)
PassesFile h event (Refused _) = ⊥
PassesFile h event Memory = Unit {0}
