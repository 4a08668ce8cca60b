-- What a load adds, how its visit ends, and why it stops.
use Rattle.std.specs.Prelude.{◌≡◌, ◌≢◌, ◌⊎◌, ℕ, Bool, true, Option, Some, None, List, [], ◌∷◌}
use Rattle.swh_base.specs.declared.kind.Kind.{Kind}
use Rattle.swh_base.specs.declared.entry.Entry.{Entry}
use Rattle.swh_base.specs.declared.visit.Status.{Status}
use Rattle.swh_base.specs.declared.visit.Status.TheVariants.{Ongoing, Full as FullStatus, NotFound as NotFoundStatus, Failed as FailedStatus}
use Rattle.swh_base.specs.Visit.{Statuses}
use Rattle.swh_model.specs.declared.event.EventKind.{EventKind}
use Rattle.swh_model.specs.declared.event.EventKind.TheVariants.{Batch, Mark}
use Rattle.swh_model.specs.declared.event.Wish.{Wish}
use Rattle.swh_model.specs.declared.event.Wish.TheVariants as wished
use Rattle.swh_ingest.specs.Knowing.{Protocol}
use Rattle.swh_ingest.specs.declared.end.End.{End}
use Rattle.swh_ingest.specs.declared.end.End.TheVariants.{Full, NotFound, Unread, Bad, Met}
use Rattle.swh_ingest.specs.declared.end.Loaded.{Loaded}
use Rattle.swh_ingest.specs.declared.end.LoadFault.{LoadFault}
use Rattle.swh_ingest.specs.declared.stop.Stop.{Stop}
use Rattle.swh_ingest.specs.Owning.{Attempt, IsWished}
use Rattle.swh_ingest.specs.Visiting.{HasLast}
use Rattle.swh_ingest.specs.Walking.{Adds, Opens, StopsNow, StopsAfter}

-- The event marks this visit, or adds a batch that is allowed, and that is not empty where nobody else adds.
abbrev pub IsOwn : Bool → (List Entry → Type 0) → Attempt → ℕ → EventKind → Type 0
IsOwn alone IsAllowed a number (Batch entries) = (alone ≡ true → entries ≢ []) × IsAllowed entries
IsOwn alone IsAllowed a number (Mark origin visit status snapshot) = (origin ≡ a.origin) × (visit ≡ number)
IsOwn alone IsAllowed a number _ = ⊥

-- It was asked to mark this visit, or to add a batch that is allowed and not empty.
abbrev pub IsOwnAsked : (List Entry → Type 0) → Attempt → ℕ → Wish → Type 0
IsOwnAsked IsAllowed a number (wished.Batch entries) = (entries ≢ []) × IsAllowed entries
IsOwnAsked IsAllowed a number (wished.Mark origin visit status snapshot) = (origin ≡ a.origin) × (visit ≡ number)
IsOwnAsked IsAllowed a number _ = ⊥

-- the last status of a visit that ends so, with its snapshot
abbrev pub last_at : {B : Type 0} → End B → Status × Option (List ℕ)
last_at (Full snapshot) = (FullStatus, Some snapshot)
last_at NotFound = (NotFoundStatus, None)
last_at Unread = (FailedStatus, None)
last_at (Bad bad) = (FailedStatus, None)
last_at (Met name) = (FailedStatus, None)

-- the statuses of the visit after its first
abbrev pub statuses_of : {B : Type 0} → End B → Statuses
statuses_of (Full snapshot) = (Ongoing, None) ∷ (FullStatus, Some snapshot) ∷ []
statuses_of NotFound = (NotFoundStatus, None) ∷ []
statuses_of Unread = (Ongoing, None) ∷ (FailedStatus, None) ∷ []
statuses_of (Bad bad) = (Ongoing, None) ∷ (FailedStatus, None) ∷ []
statuses_of (Met name) = (Ongoing, None) ∷ (FailedStatus, None) ∷ []

-- The marks of a visit that has not ended.
abbrev pub AreUnended : Statuses → Type 0
AreUnended marks = (marks ≡ []) ⊎ (marks ≡ (Ongoing, None) ∷ [])

module _ {S : Type 0} (id : Kind → List ℕ → List ℕ) (w : Protocol S) where
  -- Own events were added, the visit has no end, and then it stopped.
  pub record StopsUnended (IsAdded : EventKind → Type 0) (IsTried : Wish → Type 0) (a b : S) (why : Stop) : Type 0 where
    pub marks : Statuses
    pub unended : AreUnended marks
    pub after_them : StopsAfter id w IsAdded IsTried marks a b why

  -- It stopped as this visit was to be marked as failed.
  pub record StopsFailing (t : Attempt) (number : ℕ) (b : S) (why : Stop) : Type 0 where
    pub mid : S
    pub stops : StopsNow id w (IsWished (wished.Mark t.origin number FailedStatus None)) mid b why

  module _ (IsAllowed : List Entry → Type 0) (t : Attempt) (a b : S) where
    -- The visit was opened, as the next of its origin, and its own events were added, up to its end.
    pub record EndsOwn {B : Type 0} (loaded : Loaded B) : Type 0 where
      pub mid : S
      pub opened : Opens id w t a mid loaded.visit
      pub own : Adds w (IsOwn w.alone IsAllowed t loaded.visit) (statuses_of loaded.end) mid b
      pub last : HasLast (w.known b).front t loaded.visit (last_at loaded.end)

    -- It stopped before its visit was opened.
    pub record StopsUnopened (fault : LoadFault) : Type 0 where
      pub no_visit : fault.visit ≡ 0
      pub now : StopsNow id w (IsWished (wished.Open t.origin t.kind t.date)) a b fault.why

    -- It stopped once its visit was opened.
    pub record StopsOpened (fault : LoadFault) : Type 0 where
      pub mid : S
      pub opened : Opens id w t a mid fault.visit
      pub later : StopsUnended (IsOwn w.alone IsAllowed t fault.visit) (IsOwnAsked IsAllowed t fault.visit) mid b fault.why

    -- The load stopped before its visit was opened, or after.
    abbrev pub StopsLoad : LoadFault → Type 0
    StopsLoad fault = StopsUnopened fault ⊎ StopsOpened fault
