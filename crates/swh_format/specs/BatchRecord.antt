-- The record of a batch, which says where its run begins and ends in the store, and the number of its objects.
use Rattle.std.specs.Prelude.{ℕ, ◌+◌, ◌<◌, ◌^◌, List, length}
use Rattle.std.specs.List.{AllByRecursion}
use Rattle.swh_base.specs.declared.entry.Entry.{Entry}
use Rattle.swh_format.specs.Fields.{Contents}
use Rattle.swh_format.specs.Kinds.{told_fields, fields_of}
use Rattle.swh_format.specs.declared.kinds.RecordKind.TheVariants as kind
use Rattle.swh_format.specs.StoredObject.{coded_run, IsCodableEntry}

-- what the fields hold
abbrev pub batch_contents : ℕ → ℕ → ℕ → Contents (told_fields kind.Batch)
batch_contents from to number = (from, (to, (number, tt)))

-- where the run begins in the store, as the fields say
abbrev pub run_from : Contents (fields_of kind.Batch) → ℕ
run_from c = c.1.0

-- and where it ends
abbrev pub run_to : Contents (fields_of kind.Batch) → ℕ
run_to c = c.1.1.0

-- The parts of a batch whose run begins at this place fit their fields.
pub record IsCodableBatch (at : ℕ) (entries : List Entry) : Type 0 where
  pub entries_codable : AllByRecursion IsCodableEntry entries
  pub number : length entries < 2 ^ 32
  pub end : at + length (coded_run entries) < 2 ^ 64
