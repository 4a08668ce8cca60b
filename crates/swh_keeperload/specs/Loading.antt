-- What a load leaves of a keeper, whatever it answers.
use Rattle.std.specs.Prelude.{◌≡◌, ◌⊎◌, ℕ, ◌≤◌, true, Result, Ok, Err, None, List, [], ◌∷◌, ◌++◌, length}
use Rattle.std.specs.List.{AllByRecursion}
use Rattle.swh_base.specs.declared.kind.Kind.{Kind}
use Rattle.swh_base.specs.declared.entry.Entry.{Entry}
use Rattle.swh_base.specs.declared.visit.Status.TheVariants.{Created}
use Rattle.swh_base.specs.Visit.{Statuses, IsFinal, last_status}
use Rattle.swh_outside.specs.Views.{Disks}
use Rattle.swh_model.specs.declared.event.Event.{Event}
use Rattle.swh_keeper.specs.Calls.{MakesCallsOf}
use Rattle.swh_keeper.specs.Kept.{Kept}
use Rattle.swh_ingest.specs.declared.end.LoadFault.{LoadFault}
use Rattle.swh_ingest.specs.declared.stop.Stop.{Stop}
use Rattle.swh_ingest.specs.declared.stop.Stop.TheVariants as why
use Rattle.swh_ingest.specs.Loading.{IsOwn}
use Rattle.swh_ingest.specs.Owning.{Attempt, open_event}
use Rattle.swh_ingest.specs.Visiting.{IsVisit, next_visit}
use Rattle.swh_ingest.specs.Walking.{IsBy}
use Rattle.swh_keeperload.specs.Leaving.{KeepsAll, StopsFor}

-- The event is this one.
abbrev pub IsEvent : Event → Event → Type 0
IsEvent x e = e ≡ x

-- The event is a load's own, by the one who opened the visit.
abbrev pub IsOwnEvent : (List Entry → Type 0) → Attempt → ℕ → Event → Type 0
IsOwnEvent IsAllowed a number e = IsBy a.by (IsOwn true IsAllowed a number) e

-- The events of one load: none, or the opening of its visit and then others of that visit.
abbrev pub AreOfVisit : (List Entry → Type 0) → Attempt → ℕ → List Event → Type 0
AreOfVisit IsAllowed a number [] = Unit {0}
AreOfVisit IsAllowed a number (e ∷ es) = IsEvent (open_event a) e × AllByRecursion (IsOwnEvent IsAllowed a number) es

-- One load's events were added.
pub record AddsVisit (IsAllowed : List Entry → Type 0) (a : Attempt) (h h' : List Event) : Type 0 where
  pub more : List Event
  pub behind : h' ≡ h ++ more
  pub are : AreOfVisit IsAllowed a (next_visit h a.origin) more

-- The visit is there, was opened by this attempt, and has not ended: it has two statuses at most.
pub record IsOpen (h : List Event) (a : Attempt) (number : ℕ) : Type 0 where
  pub statuses : Statuses
  pub visit : IsVisit h a number statuses
  pub unended : IsFinal (last_status statuses) → ⊥
  pub few : length statuses ≤ 2

-- Nothing is changed: a disk had failed before, or there is no memory.
pub record StopsUnchanged {D : Type 0} (old new : Kept D) (stop : Stop) : Type 0 where
  pub same : new ≡ old
  pub cause : (stop ≡ why.Wounded) ⊎ (stop ≡ why.Memory)

module _ {D : Type 0} (id : Kind → List ℕ → List ℕ) (disks : Disks D) where
  -- The device calls of whatever a load added, and of the event that comes next where a disk failed.
  abbrev pub MakesVisitCalls : (List Entry → Type 0) → Attempt → Kept D → Kept D → Type 0
  MakesVisitCalls IsAllowed a old new =
      (more : List Event) → new.history ≡ old.history ++ more
      → MakesCallsOf id disks.file (λ next. AreOfVisit IsAllowed a (next_visit old.history a.origin) (more ++ next ∷ [])) more old new

  -- It stopped before its visit was opened, and nothing was added.
  pub record StopsAtOnce (a : Attempt) (old new : Kept D) (fault : LoadFault) : Type 0 where
    pub no_visit : fault.visit ≡ 0
    pub same : new.history ≡ old.history
    pub stops : StopsFor id disks.faults (IsEvent (open_event a)) old new fault.why

  -- It stopped once its visit was opened. The visit is there, and it has no end.
  pub record StopsLater (IsAllowed : List Entry → Type 0) (a : Attempt) (old new : Kept D) (fault : LoadFault) : Type 0 where
    pub visit : fault.visit ≡ next_visit old.history a.origin
    pub more : List Event
    pub opened : new.history ≡ old.history ++ open_event a ∷ more
    pub unended : IsOpen new.history a fault.visit
    pub stops : StopsFor id disks.faults (IsOwnEvent IsAllowed a fault.visit) old new fault.why

  -- The load stopped before its visit was opened, or after.
  abbrev pub Stops : (List Entry → Type 0) → Attempt → Kept D → Kept D → LoadFault → Type 0
  Stops IsAllowed a old new fault = StopsAtOnce a old new fault ⊎ StopsLater IsAllowed a old new fault

-- Where a disk had failed before, no visit is opened and nothing is changed.
abbrev pub IsHeldBack : {D T : Type 0} → Kept D → Kept D → Result T LoadFault → Type 0
IsHeldBack old new (Ok loaded) = ⊥
IsHeldBack old new (Err fault) = (fault.visit ≡ 0) × StopsUnchanged old new fault.why

-- The load ended the visit with this number, the next of its origin, which has these statuses after its first. Nothing that was
-- held is lost, and no disk had failed.
pub record EndsVisit {D : Type 0} (a : Attempt) (old new : Kept D) (ended : ℕ) (later : Statuses) : Type 0 where
  pub number : ended ≡ next_visit old.history a.origin
  pub visit : IsVisit new.history a ended ((Created, None) ∷ later)
  pub on : KeepsAll old new
  pub before_it : old.wounded ≡ None

-- No count of faults fell.
pub record NoCountFell {D : Type 0} (disks : Disks D) (old new : Kept D) : Type 0 where
  pub store : disks.faults old.store ≤ disks.faults new.store
  pub ledger : disks.faults old.ledger ≤ disks.faults new.ledger
