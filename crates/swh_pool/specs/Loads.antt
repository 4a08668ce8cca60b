-- Jobs loaded one after the other.
use Rattle.std.specs.Prelude.{◌≡◌, ℕ, ◌≤◌, Some, None, Result, Ok, Err, List, [], ◌∷◌, ◌++◌, map}
use Rattle.swh_base.specs.declared.kind.Kind.{Kind}
use Rattle.swh_base.specs.declared.entry.Entry.{Entry}
use Rattle.swh_base.specs.declared.visit.Status.TheVariants.{Created}
use Rattle.swh_outside.specs.Views.{Disks}
use Rattle.swh_model.specs.declared.event.Event.{Event}
use Rattle.swh_keeper.specs.Kept.{Kept}
use Rattle.swh_loader.specs.declared.end.Loaded.{Loaded}
use Rattle.swh_ingest.specs.declared.end.LoadFault.{LoadFault}
use Rattle.swh_ingest.specs.Owning.{Attempt, attempt}
use Rattle.swh_loader.specs.Ending.{IsJobEnd, statuses_of, held_bodies}
use Rattle.swh_inputs.specs.Opening.{kind_of}
use Rattle.swh_inputs.specs.Parts.{Parts, HasGoodHead, IsSameInput}
use Rattle.swh_loader.specs.Leaving.{AreAllowed}
use Rattle.swh_keeperload.specs.Loading.{AreOfVisit, MakesVisitCalls, Stops, IsHeldBack}
use Rattle.swh_ingest.specs.Visiting.{next_visit, IsVisit}
use Rattle.swh_keeperload.specs.Leaving.{KeepsAll}
use Rattle.swh_pool.specs.declared.dated.DatedJob.{DatedJob}

-- The head that is named for the job's stream is a ref.
abbrev pub HasHead : {S F : Type 0} → DatedJob S F → Type 0
HasHead dated = HasGoodHead dated.job.input

-- one job: as it was, as it is afterwards, the events that its load added, in their order, and how that ended
pub record OneLoad (S F : Type 0) : Type 0 where
  pub job : DatedJob S F
  pub after : DatedJob S F
  pub own : List Event
  pub outcome : Result Loaded LoadFault

-- the load of a job
abbrev pub one_load : {S F : Type 0} → DatedJob S F → DatedJob S F → List Event → Result Loaded LoadFault → OneLoad S F
one_load job after own outcome = record { job = job; after = after; own = own; outcome = outcome }

-- what loads are done with: how objects are named, by whom events are, and what the parts of inputs and the disks tell
pub record Loading (S F D : Type 0) : Type 1 where
  pub id : Kind → List ℕ → List ℕ
  pub by : ℕ
  pub parts : Parts S F
  pub disks : Disks D

-- loads done with these
abbrev pub loading : {S F D : Type 0} → (Kind → List ℕ → List ℕ) → ℕ → Parts S F → Disks D → Loading S F D
loading id by parts disks = record { id = id; by = by; parts = parts; disks = disks }

module _ {S F D : Type 0} (given : Loading S F D) where
  -- who loads the job, and when
  abbrev pub attempt_at : OneLoad S F → Attempt
  attempt_at l = attempt given.by l.job.job.origin (kind_of l.job.job.input) l.job.date

  -- The batches of the load hold only what its input may give before its reading stops.
  abbrev pub AreAllowedAt : OneLoad S F → List Entry → Type 0
  AreAllowedAt l = AreAllowed given.id given.parts l.job.job.input

  -- The load ended its visit, the next of its origin.
  pub record IsEnded (l : OneLoad S F) (old new : Kept D) (loaded : Loaded) : Type 0 where
    pub number : loaded.visit ≡ next_visit old.history l.job.job.origin
    pub visit : IsVisit new.history (attempt_at l) loaded.visit ((Created, None) ∷ statuses_of loaded.end)
    pub means : IsJobEnd given.id given.parts (held_bodies new) l.job.job.input l.after.job.input loaded.end
    pub on : KeepsAll old new
    pub before_it : old.wounded ≡ None

  -- What the outcome says.
  abbrev pub IsLoadOutcome : OneLoad S F → Kept D → Kept D → Result Loaded LoadFault → Type 0
  IsLoadOutcome l old new (Ok loaded) = IsEnded l old new loaded
  IsLoadOutcome l old new (Err fault) = Stops given.id given.disks (AreAllowedAt l) (attempt_at l) old new fault

  -- The load of one job, between two states of the archive: its own events were added, and no others.
  pub record IsOneLoad (l : OneLoad S F) (old new : Kept D) : Type 0 where
    pub behind : new.history ≡ old.history ++ l.own
    pub are_own : AreOfVisit (AreAllowedAt l) (attempt_at l) (next_visit old.history l.job.job.origin) l.own
    pub ends : IsLoadOutcome l old new l.outcome
    pub wounded : (n : ℕ) → old.wounded ≡ Some n → IsHeldBack old new l.outcome
    pub calls : given.disks.tells → MakesVisitCalls given.id given.disks (AreAllowedAt l) (attempt_at l) old new
    pub store_later : given.disks.faults old.store ≤ given.disks.faults new.store
    pub ledger_later : given.disks.faults old.ledger ≤ given.disks.faults new.ledger
    pub same_origin : l.after.job.origin ≡ l.job.job.origin
    pub same_input : IsSameInput given.parts l.job.job.input l.after.job.input
    pub same_date : l.after.date ≡ l.job.date

  -- Each load begins where the one before it ended.
  abbrev pub AreLoads : List (OneLoad S F) → Kept D → Kept D → Type 0
  AreLoads [] old new = new ≡ old
  AreLoads (l ∷ loads) old new = (between : Kept D) × IsOneLoad l old between × AreLoads loads between new

  -- These jobs were loaded one after the other, with these outcomes.
  pub record AreLoaded (before now : List (DatedJob S F)) (old new : Kept D) (outcomes : List (Result Loaded LoadFault)) : Type 0 where
    pub loads : List (OneLoad S F)
    pub jobs : before ≡ map (λ l. l.job) loads
    pub after : now ≡ map (λ l. l.after) loads
    pub ended : outcomes ≡ map (λ l. l.outcome) loads
    pub each : AreLoads loads old new
