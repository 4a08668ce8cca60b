-- Fields that stand one after another, what each may hold, and its bytes.
use Rattle.std.specs.Prelude.{◌≡◌, ◌⊎◌, ℕ, ◌<◌, ◌^◌, Option, Some, None, List, [], ◌∷◌, ◌++◌, length}
use Rattle.std.specs.Int.{w32, w64, to_be_bytes}
use Rattle.swh_format.specs.declared.kinds.Field.{Field}
use Rattle.swh_format.specs.declared.kinds.Field.TheVariants as field
use Rattle.swh_format.specs.Kinds.{choices}

-- The byte is one of these.
abbrev pub IsAmong : ℕ → List ℕ → Type 0
IsAmong b [] = ⊥
IsAmong b (c ∷ cs) = (b ≡ c) ⊎ IsAmong b cs

-- a byte 1 and the id, or a byte 0
abbrev pub coded_snapshot : Option (List ℕ) → List ℕ
coded_snapshot None = 0 ∷ []
coded_snapshot (Some id) = 1 ∷ id

-- An id has twenty bytes.
abbrev pub IsSnapshotId : Option (List ℕ) → Type 0
IsSnapshotId None = Unit {0}
IsSnapshotId (Some id) = length id ≡ 20

-- what a field holds
abbrev pub Content : Field → Type 0
Content field.Four = ℕ
Content field.Eight = ℕ
Content (field.Byte c) = ℕ
Content field.Id = List ℕ
Content field.Snapshot = Option (List ℕ)

-- its bytes
abbrev pub field_text : (f : Field) → Content f → List ℕ
field_text field.Four n = to_be_bytes w32 n
field_text field.Eight n = to_be_bytes w64 n
field_text (field.Byte c) b = b ∷ []
field_text field.Id id = id
field_text field.Snapshot s = coded_snapshot s

-- It fits the field.
abbrev pub Fits : (f : Field) → Content f → Type 0
Fits field.Four n = n < 2 ^ 32
Fits field.Eight n = n < 2 ^ 64
Fits (field.Byte c) b = IsAmong b (choices c)
Fits field.Id id = length id ≡ 20
Fits field.Snapshot s = IsSnapshotId s

-- what fields hold, each of them
abbrev pub Contents : List Field → Type 0
Contents [] = Unit {0}
Contents (f ∷ fs) = Content f × Contents fs

-- the bytes of fields one after another, and what is behind them
abbrev pub text : (fs : List Field) → Contents fs → List ℕ → List ℕ
text [] c behind = behind
text (f ∷ fs) c behind = field_text f c.0 ++ text fs c.1 behind

-- Each fits its field.
abbrev pub AreFit : (fs : List Field) → Contents fs → Type 0
AreFit [] c = Unit {0}
AreFit (f ∷ fs) c = Fits f c.0 × AreFit fs c.1

-- The bytes are the field.
abbrev pub IsField : Field → List ℕ → Type 0
IsField field.Four bytes = length bytes ≡ 4
IsField field.Eight bytes = length bytes ≡ 8
IsField (field.Byte c) bytes = (b : ℕ) × (bytes ≡ b ∷ []) × IsAmong b (choices c)
IsField field.Id bytes = length bytes ≡ 20
IsField field.Snapshot bytes = (bytes ≡ 0 ∷ []) ⊎ ((id : List ℕ) × (bytes ≡ 1 ∷ id) × (length id ≡ 20))

-- The bytes begin with these fields.
abbrev pub FieldsHold : List Field → List ℕ → Type 0
FieldsHold [] bytes = Unit {0}
FieldsHold (f ∷ fs) bytes = (front : List ℕ) × (rest : List ℕ) × (bytes ≡ front ++ rest) × IsField f front × FieldsHold fs rest

-- The bytes say this in the fields, and have this behind them.
pub record Says (fs : List Field) (c : Contents fs) (bytes behind : List ℕ) : Type 0 where
  pub spelled : bytes ≡ text fs c behind
  pub fit : AreFit fs c

-- What the bytes say in the fields with which they begin.
pub record Spells (fs : List Field) (bytes : List ℕ) : Type 0 where
  pub holds : Contents fs
  pub behind : List ℕ
  pub says : Says fs holds bytes behind
