-- What a keeper is, and what holds of its disks.
use Rattle.std.specs.Prelude.{◌≡◌, ℕ, ◌+◌, Option, Some, None, Ok, Err, false, List, [], ◌∷◌, ◌++◌, length, refl}
use Rattle.std.specs.Coded.{Coded, code_by, coded×, coded_ℕ, coded_option, coded_list}
use Rattle.swh_outside.specs.Disk.{File}
use Rattle.swh_outside.specs.Files.{EachImages, files_of}
use Rattle.swh_base.specs.declared.kind.Kind.{Kind}
use Rattle.swh_model.specs.contracts.event.Event as an_event
use Rattle.swh_model.specs.declared.event.Event.{Event}
use Rattle.swh_model.specs.declared.event.Wish.{Wish}
use Rattle.swh_model.specs.declared.event.Outcome.{Outcome}
use Rattle.swh_model.specs.declared.event.No.{No}
use Rattle.swh_model.specs.declared.event.No.TheVariants.{Limit, NoVisit, NotYours, Ended, NoSnapshot, NotClosed, Collision}
use Rattle.swh_segment.specs.Standing.{AreStanding, WithOrWithout}
use Rattle.swh_model.specs.Step.{May, IsHistory, replay}
use Rattle.swh_model.specs.Judge.{IsVerdict}
use Rattle.swh_keeper.specs.declared.fault.Refusal.{Refusal}
use Rattle.swh_keeper.specs.declared.fault.Refusal.TheVariants as refusal

-- the two disks, the history, and the number of the event at which a disk failed
pub record Kept (D : Type 0) : Type 0 where
  pub store : D
  pub ledger : D
  pub history : List Event
  pub wounded : Option ℕ

-- how a keeper as contracts see it is told apart from another
abbrev pub kept_code : {D : Type 0} → Coded D → Coded (Kept D)
kept_code {D} d =
    code_by (D × (D × (List Event × Option ℕ))) (coded× d (coded× d (coded× (coded_list an_event.the_row.coded) (coded_option coded_ℕ))))
    (λ k. (k.store, (k.ledger, (k.history, k.wounded)))) (λ p. record { store = p.0; ledger = p.1.0; history = p.1.1.0; wounded = p.1.1.1 }) (λ _. refl)

-- One event may have happened after the history.
pub record MayHoldOneMore (id_of : Kind → List ℕ → List ℕ) (ledger store : File) (h : List Event) : Type 0 where
  pub event : Event
  pub may : May id_of (replay h) event
  pub each : EachImages (files_of ledger store) (WithOrWithout h event)

-- What always holds of a keeper.
pub record IsKept {D : Type 0} (id_of : Kind → List ℕ → List ℕ) (tells : Type 0) (file : D → File) (k : Kept D) : Type 0 where
  pub history : IsHistory id_of k.history
  pub standing : k.wounded ≡ None → tells → AreStanding (file k.ledger) (file k.store) k.history
  pub doubt : (n : ℕ) → k.wounded ≡ Some n → tells → MayHoldOneMore id_of (file k.ledger) (file k.store) k.history

-- The plan was judged, and its event is the newest.
pub record Applies (h : List Event) (by : ℕ) (wish : Wish) (h' : List Event) (outcome : Outcome) : Type 0 where
  pub event : Event
  pub verdict : IsVerdict h by wish (Ok (event, outcome))
  pub added_behind : h' ≡ h ++ event ∷ []

-- A judged cause leaves all as it was.
pub record IsJudgedAgainst {D : Type 0} (old : Kept D) (by : ℕ) (wish : Wish) (cause : No) (new : Kept D) : Type 0 where
  pub unwounded : old.wounded ≡ None
  pub verdict : IsVerdict old.history by wish (Err cause)
  pub same : new ≡ old

-- A disk failed: the history stays, and the number of the event is kept.
pub record IsDiskFaulted {D : Type 0} (old new : Kept D) : Type 0 where
  pub before_it : old.wounded ≡ None
  pub history : new.history ≡ old.history
  pub wounded : new.wounded ≡ Some (length old.history + 1)

-- Why a plan was refused, and what is left.
abbrev pub RefusesPlan : {D : Type 0} → Kept D → ℕ → Wish → Kept D → Refusal → Type 0
RefusesPlan old by wish new (refusal.Wounded first) = (old.wounded ≡ Some first) × (new ≡ old)
RefusesPlan old by wish new (refusal.Limit which number) = IsJudgedAgainst old by wish (Limit which number) new
RefusesPlan old by wish new (refusal.NoVisit have) = IsJudgedAgainst old by wish (NoVisit have) new
RefusesPlan old by wish new (refusal.NotYours other) = IsJudgedAgainst old by wish (NotYours other) new
RefusesPlan old by wish new (refusal.Ended status) = IsJudgedAgainst old by wish (Ended status) new
RefusesPlan old by wish new (refusal.NoSnapshot name) = IsJudgedAgainst old by wish (NoSnapshot name) new
RefusesPlan old by wish new (refusal.NotClosed parent child) = IsJudgedAgainst old by wish (NotClosed parent child) new
RefusesPlan old by wish new (refusal.Collision name) = IsJudgedAgainst old by wish (Collision name) new
RefusesPlan old by wish new refusal.DiskFault = IsDiskFaulted old new
RefusesPlan old by wish new (refusal.Memory stands) = (stands ≡ false) × (new ≡ old)
