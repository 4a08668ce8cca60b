-- The first of fields that does not stand.
use Rattle.std.specs.Prelude.{◌≡◌, ◌⊎◌, ◌+◌, ◌<◌, ℕ, List, [], ◌∷◌, ◌++◌, length}
use Rattle.swh_format.specs.declared.kinds.Choice.{Choice}
use Rattle.swh_format.specs.declared.kinds.Choice.TheVariants as choice
use Rattle.swh_format.specs.declared.kinds.Field.{Field}
use Rattle.swh_format.specs.declared.kinds.Field.TheVariants as field
use Rattle.swh_format.specs.Fields.{IsAmong, IsField}
use Rattle.swh_format.specs.Kinds.{choices}
use Rattle.swh_recovery.specs.declared.harm.Harm.{Harm}
use Rattle.swh_recovery.specs.declared.harm.Harm.TheVariants.{Kind, Short}
use Rattle.swh_recovery.specs.declared.harm.Found.{Found}

-- a harm at a place
abbrev pub found_at : ℕ → Harm → Found
found_at at harm = record { at = at; harm = harm }

-- The bytes are the field and what is behind it.
pub record IsFieldThen (f : Field) (bytes rest : List ℕ) : Type 0 where
  pub front : List ℕ
  pub is : bytes ≡ front ++ rest
  pub is_field : IsField f front

-- Fewer bytes than needed stand from this place on.
pub record IsCut (need : ℕ) (bytes : List ℕ) (at : ℕ) (found : Found) : Type 0 where
  pub short : length bytes < need
  pub found_is : found ≡ found_at at (Short (length bytes) need)

-- At this place stands a byte that may not.
pub record IsOther (c : Choice) (bytes : List ℕ) (at : ℕ) (found : Found) : Type 0 where
  pub byte : ℕ
  pub rest : List ℕ
  pub is : bytes ≡ byte ∷ rest
  pub other : IsAmong byte (choices c) → ⊥
  pub found_is : found ≡ found_at at (Kind byte)

-- After a byte 1 fewer bytes than an id's stand.
pub record IsIdCut (bytes : List ℕ) (at : ℕ) (found : Found) : Type 0 where
  pub rest : List ℕ
  pub is : bytes ≡ 1 ∷ rest
  pub cut : IsCut 20 rest (at + 1) found

-- The bytes, which stand from this place on, do not begin with the field.
abbrev pub FieldBreaks : Field → List ℕ → ℕ → Found → Type 0
FieldBreaks field.Four bytes at found = IsCut 4 bytes at found
FieldBreaks field.Eight bytes at found = IsCut 8 bytes at found
FieldBreaks field.Id bytes at found = IsCut 20 bytes at found
FieldBreaks (field.Byte c) bytes at found = IsCut 1 bytes at found ⊎ IsOther c bytes at found
FieldBreaks field.Snapshot bytes at found = IsCut 1 bytes at found ⊎ (IsOther choice.Snapshot bytes at found ⊎ IsIdCut bytes at found)

-- Of these fields the bytes, which stand from this place on, begin with some, and the next one breaks.
abbrev pub FieldsBreak : List Field → List ℕ → ℕ → Found → Type 0
FieldsBreak [] bytes at found = ⊥
FieldsBreak (f ∷ fs) bytes at found = FieldBreaks f bytes at found ⊎ ((front : List ℕ) × (rest : List ℕ) × (bytes ≡ front ++ rest) × IsField f front × FieldsBreak fs rest (at + length front) found)
