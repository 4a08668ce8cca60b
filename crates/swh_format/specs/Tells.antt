-- What a record tells of an event that adds nothing to the store.
use Rattle.std.specs.Prelude.{◌≡◌, ℕ, List}
use Rattle.swh_model.specs.declared.event.EventKind.{EventKind}
use Rattle.swh_model.specs.declared.event.EventKind.TheVariants.{Batch}
use Rattle.swh_format.specs.EventRecord.{event_byte, event_payload, IsCodableKind}

-- It tells all that happened, wherever its run would begin: it is no batch.
abbrev pub HasNoRun : EventKind → Type 0
HasNoRun (Batch entries) = ⊥
HasNoRun _ = Unit {0}

-- A record of this kind, with this payload after who wrote it, is of what happened.
pub record TellsWhole (byte : ℕ) (told : List ℕ) (what : EventKind) : Type 0 where
  pub byte_is : byte ≡ event_byte what
  pub spelled : told ≡ event_payload 0 what
  pub whole : HasNoRun what
  pub codable : IsCodableKind 0 what

-- It is of no event, wherever a run begins.
abbrev pub IsNotTold : ℕ → List ℕ → Type 0
IsNotTold byte told = (at : ℕ) (what : EventKind) → IsCodableKind at what → byte ≡ event_byte what → told ≡ event_payload at what → ⊥
