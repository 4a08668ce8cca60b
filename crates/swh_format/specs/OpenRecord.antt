-- The record of an opening, which says the visit's kind, the date and the origin.
use Rattle.std.specs.Prelude.{◌≡◌, ℕ, ◌<◌, ◌^◌, List}
use Rattle.swh_base.specs.declared.visit.VisitKind.{VisitKind}
use Rattle.swh_base.specs.declared.visit.VisitKind.TheVariants.{Fast, Dir, Batch as BatchVisit}
use Rattle.swh_format.specs.Fields.{text, Contents}
use Rattle.swh_format.specs.Kinds.{told_fields}
use Rattle.swh_format.specs.declared.kinds.RecordKind.TheVariants as kind
use Rattle.swh_format.specs.Origin.{IsOrigin}
use Rattle.swh_format.specs.declared.open_record.OpenParts.{OpenParts}

abbrev pub visit_kind_number : VisitKind → ℕ
visit_kind_number Fast = 1
visit_kind_number Dir = 2
visit_kind_number BatchVisit = 3

-- what the fields hold
abbrev pub open_contents : VisitKind → ℕ → Contents (told_fields kind.Open)
open_contents visit_kind date = (visit_kind_number visit_kind, (date, tt))

-- The parts of an opening fit their fields.
pub record IsCodableOpen (origin : List ℕ) (date : ℕ) : Type 0 where
  pub is_origin : IsOrigin origin
  pub date_fits : date < 2 ^ 64

-- The bytes are what the record of an opening says of it.
pub record IsOpenTold (payload : List ℕ) (p : OpenParts) : Type 0 where
  pub spelled : payload ≡ text (told_fields kind.Open) (open_contents p.kind p.date) p.origin.now
  pub date_fits : p.date < 2 ^ 64
