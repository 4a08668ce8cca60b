-- What the payload of a batch tells of its run.
use Rattle.std.proofs.Common.{◌≡◌, ℕ, ◌+◌, List, [], length, refl}
use Rattle.swh_base.specs.declared.entry.Entry.{Entry}
use Rattle.swh_model.specs.declared.event.EventKind.TheVariants.{Batch}
use Rattle.swh_format.specs.declared.kinds.RecordKind.TheVariants as of
use Rattle.swh_format.specs.Fields.{Spells}
use Rattle.swh_format.specs.Kinds.{fields_of}
use Rattle.swh_format.specs.StoredObject.{coded_run}
use Rattle.swh_format.specs.BatchRecord.{batch_contents, run_from, run_to}
use Rattle.swh_format.specs.EventRecord.{payload_of, IsCodable}
use Rattle.swh_format.proofs.Contents.{one_spelling}
use Rattle.swh_format.proofs.KindLaws.{said_fits}

-- a payload tells of one run
pub one_told : (payload payload' : List ℕ) (t : Spells (fields_of of.Batch) payload) (u : Spells (fields_of of.Batch) payload') → payload ≡ payload' → (run_from t.holds ≡ run_from u.holds) × (run_to t.holds ≡ run_to u.holds) × (t.holds.1.1.1.0 ≡ u.holds.1.1.1.0) × (t.behind ≡ u.behind)
one_told payload payload' t u same =
    let told = one_spelling (fields_of of.Batch) payload payload' t u same in
    let held = told.0 in
    ((λ i. (held i).1.0), (λ i. (held i).1.1.0), (λ i. (held i).1.1.1.0), told.1)

-- what is told of a batch's run
abbrev pub told_of_batch : (start by : ℕ) (es : List Entry) → IsCodable start (record { by = by; what = Batch es }) → Spells (fields_of of.Batch) (payload_of start (record { by = by; what = Batch es }))
told_of_batch start by es codable = record {
  holds = (by, batch_contents start (start + length (coded_run es)) (length es));
  behind = [];
  says = record { spelled = refl; fit = (codable.0, said_fits start (Batch es) codable.1) };
}
