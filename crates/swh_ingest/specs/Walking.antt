-- What a step of a load adds, and why it stops.
use Rattle.std.specs.Prelude.{◌≡◌, ◌⊎◌, ℕ, Bool, true, None, List, [], ◌∷◌, ◌++◌}
use Rattle.std.specs.List.{AllByRecursion}
use Rattle.swh_base.specs.declared.kind.Kind.{Kind}
use Rattle.swh_base.specs.declared.entry.Entry.{Entry}
use Rattle.swh_base.specs.declared.visit.Status.TheVariants.{Created}
use Rattle.swh_base.specs.Visit.{Statuses}
use Rattle.swh_model.specs.declared.event.Event.{Event}
use Rattle.swh_model.specs.declared.event.EventKind.{EventKind}
use Rattle.swh_model.specs.declared.event.Wish.{Wish}
use Rattle.swh_model.specs.declared.event.Wish.TheVariants.{Batch, Open, Mark}
use Rattle.swh_model.specs.Archive.{Bodies}
use Rattle.swh_model.specs.Limits.{IsWithinLimits}
use Rattle.swh_model.specs.Step.{AreNew, FitsStatus, HasItsChildrenAndName}
use Rattle.swh_ingest.specs.Knowing.{Protocol, Follows, RefusesPlan, held_in}
use Rattle.swh_ingest.specs.declared.refusal.Refusal.{Refusal}
use Rattle.swh_ingest.specs.declared.stop.Stop.{Stop}
use Rattle.swh_ingest.specs.declared.stop.Stop.TheVariants.{Memory}
use Rattle.swh_ingest.specs.Owning.{Attempt, open_event, marks_of}
use Rattle.swh_ingest.specs.Stopping.{IsWhyOf}
use Rattle.swh_ingest.specs.Visiting.{IsVisit, next_visit}

-- The event is by this one, and such a thing happened.
pub record IsBy (by : ℕ) (IsAdded : EventKind → Type 0) (e : Event) : Type 0 where
  pub by_one : e.by ≡ by
  pub added : IsAdded e.what

-- A batch that may be added: good and named, within the limits, and new where nobody else adds.
pub record IsReadyBatch (id : Kind → List ℕ → List ℕ) (alone : Bool) (bodies : Bodies) (entries : List Entry) : Type 0 where
  pub good : AllByRecursion (HasItsChildrenAndName id) entries
  pub limits : IsWithinLimits entries
  pub new : alone ≡ true → AreNew bodies entries

-- All that a step sees to before it asks for something.
abbrev pub IsReadyFor : (Kind → List ℕ → List ℕ) → Bool → Bodies → Wish → Type 0
IsReadyFor id alone bodies (Batch entries) = IsReadyBatch id alone bodies entries
IsReadyFor id alone bodies (Open origin kind date) = Unit {0}
IsReadyFor id alone bodies (Mark origin number status snapshot) = FitsStatus bodies status snapshot

module _ {S : Type 0} (w : Protocol S) where
  -- Own events of this kind were added, in this order, and these statuses are among them.
  pub record Adds (IsAdded : EventKind → Type 0) (marks : Statuses) (a b : S) : Type 0 where
    pub own : List Event
    pub each : AllByRecursion (IsBy (w.known a).number IsAdded) own
    pub marked : marks_of own ≡ marks
    pub adds : w.adds own a b

module _ {S : Type 0} (id : Kind → List ℕ → List ℕ) (w : Protocol S) where
  -- The visit was opened, as the next of its origin.
  pub record Opens (t : Attempt) (a b : S) (number : ℕ) : Type 0 where
    pub base : List Event
    pub follows : Follows id w.alone (w.known a).front base
    pub next : number ≡ next_visit base t.origin
    pub front : (w.known b).front ≡ base ++ open_event t ∷ []
    pub visit : IsVisit (w.known b).front t number ((Created, None) ∷ [])
    pub adds : w.adds (open_event t ∷ []) a b

  -- Something was asked for, and refused.
  pub record StopsAsking (IsTried : Wish → Type 0) (a b : S) (why : Stop) : Type 0 where
    pub wish : Wish
    pub tried : IsTried wish
    pub ready : IsReadyFor id w.alone (held_in (w.known a)) wish
    pub refusal : Refusal
    pub is_why : IsWhyOf refusal why
    pub refuses : RefusesPlan id w wish a b refusal

  -- There is no memory, and nothing was asked for; or something was, and was refused.
  abbrev pub StopsNow : (Wish → Type 0) → S → S → Stop → Type 0
  StopsNow IsTried a b why = ((why ≡ Memory) × (b ≡ a)) ⊎ StopsAsking IsTried a b why

  -- Own events were added, and then it stopped.
  pub record StopsAfter (IsAdded : EventKind → Type 0) (IsTried : Wish → Type 0) (marks : Statuses) (a b : S) (why : Stop) : Type 0 where
    pub mid : S
    pub first : Adds w IsAdded marks a mid
    pub stops : StopsNow IsTried mid b why
