-- The first harm of an archive's two files. A record whose event may not happen after those before it is one, at its gate,
-- and is looked for before the harm of the record behind.
use Rattle.std.specs.Prelude.{◌≡◌, ◌⊎◌, ℕ, ◌+◌, ◌-◌, List, ◌∷◌, ◌++◌, length, take}
use Rattle.swh_base.specs.declared.kind.Kind.{Kind}
use Rattle.swh_model.specs.declared.event.Event.{Event}
use Rattle.swh_model.specs.Limits.{ledger_length}
use Rattle.swh_model.specs.Step.{May, IsHistory, replay}
use Rattle.swh_format.specs.Stands.{coded_records}
use Rattle.swh_segment.specs.Making.{IsMade}
use Rattle.swh_recovery.specs.declared.harm.Harm.{Harm}
use Rattle.swh_recovery.specs.declared.harm.Harm.TheVariants.{Refused}
use Rattle.swh_recovery.specs.Harms.{Begin}
use Rattle.swh_recovery.specs.Records.{IsHarm}
use Rattle.swh_keeper.specs.declared.opening.OpenWhy.{OpenWhy}
use Rattle.swh_keeper.specs.declared.opening.OpenWhy.TheVariants.{Damaged, Memory}

-- Where it is a damage, it has P.
abbrev pub IfDamagedAt : OpenWhy → (ℕ → ℕ → Harm → Type 0) → Type 0
IfDamagedAt (Damaged file at harm) P = P file at harm
IfDamagedAt _ P = Unit {0}

-- it is a damage, or memory is wanting
abbrev pub IsReplayWhy : OpenWhy → Type 0
IsReplayWhy (Damaged file at harm) = Unit {0}
IsReplayWhy Memory = Unit {0}
IsReplayWhy _ = ⊥

-- The event of this number, from 1, is refused at the gate of its record.
pub record IsGateOf (h : List Event) (number file at : ℕ) (harm : Harm) : Type 0 where
  pub file_is : file ≡ 0
  pub at_is : at + 1 ≡ ledger_length (take (number - 1) h)
  pub harm_is : harm ≡ Refused number

module _ (id_of : Kind → List ℕ → List ℕ) where
  -- One of these events is the first that may not happen after those before it, and the harm is that of its record.
  pub record IsRefusedEvent (h : List Event) (file at : ℕ) (harm : Harm) : Type 0 where
    pub before : List Event
    pub event : Event
    pub more : List Event
    pub are : h ≡ before ++ event ∷ more
    pub history : IsHistory id_of before
    pub may_not : May id_of (replay before) event → ⊥
    pub file_is : file ≡ 0
    pub at_is : at ≡ 8 + length (coded_records 0 before)
    pub harm_is : harm ≡ Refused (length before + 1)

  -- The files begin with events of which one may not happen.
  pub record RefusesEvent (ledger store : List ℕ) (file at : ℕ) (harm : Harm) : Type 0 where
    pub events : List Event
    pub fronts : Begin id_of ledger store events
    pub refused : IsRefusedEvent events file at harm

  -- The record behind a history breaks.
  pub record BreaksHistory (ledger store : List ℕ) (file at : ℕ) (harm : Harm) : Type 0 where
    pub before : List Event
    pub harmed : IsHarm id_of ledger store file at harm before
    pub history : IsHistory id_of before

  -- The ledger is made, and this is the first harm: in the file of this number, at this place of it.
  pub record IsDamagedAt (ledger store : List ℕ) (file at : ℕ) (harm : Harm) : Type 0 where
    pub made : IsMade ledger
    pub first : RefusesEvent ledger store file at harm ⊎ BreaksHistory ledger store file at harm

  -- What stands behind events that are given: of them one may not happen, or else this harm.
  abbrev pub IsHarmBehind : List Event → ℕ → ℕ → Harm → ℕ → ℕ → Harm → Type 0
  IsHarmBehind before file at harm file' at' harm' = IsRefusedEvent before file' at' harm' ⊎ (IsHistory id_of before × (file' ≡ file) × (at' ≡ at) × (harm' ≡ harm))
