-- The record of a mark, which says the status, the visit's number, the snapshot and the origin.
use Rattle.std.specs.Prelude.{◌≡◌, ℕ, ◌<◌, ◌^◌, Option, List}
use Rattle.swh_base.specs.declared.visit.Status.{Status}
use Rattle.swh_base.specs.declared.visit.Status.TheVariants.{Created, Ongoing, Full, Partial, NotFound, Failed}
use Rattle.swh_format.specs.Fields.{text, Contents, IsSnapshotId}
use Rattle.swh_format.specs.Kinds.{told_fields}
use Rattle.swh_format.specs.declared.kinds.RecordKind.TheVariants as kind
use Rattle.swh_format.specs.Origin.{IsOrigin}
use Rattle.swh_format.specs.declared.mark_record.MarkParts.{MarkParts}

abbrev pub status_number : Status → ℕ
status_number Created = 1
status_number Ongoing = 2
status_number Full = 3
status_number Partial = 4
status_number NotFound = 5
status_number Failed = 6

-- what the fields hold
abbrev pub mark_contents : Status → ℕ → Option (List ℕ) → Contents (told_fields kind.Mark)
mark_contents status visit snapshot = (status_number status, (visit, (snapshot, tt)))

-- No mark makes a visit created.
abbrev pub IsMarkStatus : Status → Type 0
IsMarkStatus Created = ⊥
IsMarkStatus _ = Unit {0}

-- The parts of a mark fit their fields.
pub record IsCodableMark (origin : List ℕ) (visit : ℕ) (status : Status) (snapshot : Option (List ℕ)) : Type 0 where
  pub is_origin : IsOrigin origin
  pub visit_fits : visit < 2 ^ 64
  pub is_status : IsMarkStatus status
  pub is_snapshot : IsSnapshotId snapshot

-- The bytes are what the record of a mark says of it.
pub record IsMarkTold (payload : List ℕ) (p : MarkParts) : Type 0 where
  pub spelled : payload ≡ text (told_fields kind.Mark) (mark_contents p.status p.visit p.snapshot) p.origin.now
  pub visit_fits : p.visit < 2 ^ 64
  pub status_is : IsMarkStatus p.status
  pub id : IsSnapshotId p.snapshot
