-- The kinds of records, each one list of fields, and the bytes that stand for kinds. `docs/FORMATS.md` has them as a table.
use Rattle.std.specs.Prelude.{ℕ, ◌==◌, if◌then◌else◌, List, [], ◌∷◌}
use Rattle.swh_format.specs.declared.kinds.Choice.{Choice}
use Rattle.swh_format.specs.declared.kinds.Choice.TheVariants as choice
use Rattle.swh_format.specs.declared.kinds.Field.{Field}
use Rattle.swh_format.specs.declared.kinds.Field.TheVariants as field
use Rattle.swh_format.specs.declared.kinds.RecordKind.{RecordKind}
use Rattle.swh_format.specs.declared.kinds.RecordKind.TheVariants as kind

-- a record's kind as a byte: `B`, `O` and `T`
abbrev pub byte_of : RecordKind → ℕ
byte_of kind.Batch = 66
byte_of kind.Open = 79
byte_of kind.Mark = 84

-- the bytes that may stand
abbrev pub choices : Choice → List ℕ
choices choice.Record = byte_of kind.Batch ∷ byte_of kind.Open ∷ byte_of kind.Mark ∷ []
-- fast, dir, batch
choices choice.Visit = 1 ∷ 2 ∷ 3 ∷ []
-- ongoing, full, partial, not_found, failed
choices choice.Status = 2 ∷ 3 ∷ 4 ∷ 5 ∷ 6 ∷ []
-- none, or one
choices choice.Snapshot = 0 ∷ 1 ∷ []
-- content, directory, revision, release, snapshot
choices choice.Object = 1 ∷ 2 ∷ 3 ∷ 4 ∷ 5 ∷ []

-- what is told after who wrote the record
abbrev pub told_fields : RecordKind → List Field
-- where the run begins and ends in the store, in bytes from its beginning, and the number of its objects
told_fields kind.Batch = field.Eight ∷ field.Eight ∷ field.Four ∷ []
-- the visit's kind and the date; the origin is behind them
told_fields kind.Open = field.Byte choice.Visit ∷ field.Eight ∷ []
-- the status, the visit's number and the snapshot; the origin is behind them
told_fields kind.Mark = field.Byte choice.Status ∷ field.Eight ∷ field.Snapshot ∷ []

-- who wrote the record, and what is told
abbrev pub fields_of : RecordKind → List Field
fields_of k = field.Four ∷ told_fields k

-- the fields in the payload of a record whose kind is this byte
abbrev pub payload_fields : ℕ → List Field
payload_fields b = if b == byte_of kind.Batch then fields_of kind.Batch else (if b == byte_of kind.Open then fields_of kind.Open else fields_of kind.Mark)

-- a record's kind, and its payload's length
abbrev pub frame_fields : List Field
frame_fields = field.Byte choice.Record ∷ field.Four ∷ []

-- an object's kind, its body's length and its id
abbrev pub head_fields : List Field
head_fields = field.Byte choice.Object ∷ field.Eight ∷ field.Id ∷ []
