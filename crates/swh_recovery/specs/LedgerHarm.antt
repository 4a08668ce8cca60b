-- What breaks in a record of the ledger by its own bytes. The bytes are those behind its open gate.
use Rattle.std.specs.Prelude.{◌≡◌, ◌⊎◌, ◌+◌, ◌<◌, ◌^◌, ℕ, List, ◌++◌, length}
use Rattle.swh_format.specs.Record.{framed}
use Rattle.swh_format.specs.Kinds.{choices, frame_fields, payload_fields}
use Rattle.swh_format.specs.declared.kinds.Choice.TheVariants as choice
use Rattle.swh_recovery.specs.declared.harm.Found.{Found}
use Rattle.swh_format.specs.Fields.{IsAmong, Contents, FieldsHold, Spells}
use Rattle.swh_recovery.specs.Fields.{IsCut, FieldsBreak}
use Rattle.swh_format.specs.LedgerReading.{IsRecordFront}
use Rattle.swh_format.specs.declared.frame.RecordParts.{RecordParts}

-- The bytes begin with a record.
pub record BeginsRecord (bytes : List ℕ) : Type 0 where
  pub kind : ℕ
  pub payload : List ℕ
  pub rest : List ℕ
  pub spelled : bytes ≡ framed kind payload ++ rest
  pub is_kind : IsAmong kind (choices choice.Record)
  pub fits : length payload < 2 ^ 32

-- the payload's length, as the fields of its frame say
abbrev pub frame_size : Contents frame_fields → ℕ
frame_size c = c.1.0

-- The payload has fewer bytes than its length says.
pub record PayloadIsCut (bytes : List ℕ) (at : ℕ) (found : Found) : Type 0 where
  pub frame : Spells frame_fields bytes
  pub cut : IsCut (frame_size frame.holds) frame.behind (at + 5) found

-- The payload has not the fields of its kind.
pub record PayloadBreaks (bytes : List ℕ) (at : ℕ) (found : Found) : Type 0 where
  pub frame : BeginsRecord bytes
  pub breaks : FieldsBreak (payload_fields frame.kind) frame.payload (at + 5) found

-- The bytes, which stand from this place on, do not begin with a record that has its fields: its kind or its length
-- breaks, or else its payload is cut, or else one of the payload's fields breaks.
abbrev pub RecordBreaks : List ℕ → ℕ → Found → Type 0
RecordBreaks bytes at found = FieldsBreak frame_fields bytes at found ⊎ (PayloadIsCut bytes at found ⊎ PayloadBreaks bytes at found)

-- The bytes are a record's kind, length and payload, and what is behind them.
pub record IsFrame (bytes : List ℕ) (p : RecordParts) : Type 0 where
  pub front : IsRecordFront bytes p
  pub is_kind : IsAmong p.kind (choices choice.Record)

-- The bytes do not begin with a record: its kind or its length breaks, or else its payload is cut.
abbrev pub FrameBreaks : List ℕ → ℕ → Found → Type 0
FrameBreaks bytes at found = FieldsBreak frame_fields bytes at found ⊎ PayloadIsCut bytes at found

-- The record has the fields of its kind.
pub record IsRecordWithFields (bytes : List ℕ) (p : RecordParts) : Type 0 where
  pub frame : IsFrame bytes p
  pub fields : FieldsHold (payload_fields p.kind) p.payload.now
