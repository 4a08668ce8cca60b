-- The first harm of an archive's two files, with its place, and the records before it.
use Rattle.std.specs.Prelude.{◌≡◌, ◌≢◌, ◌⊎◌, ◌+◌, ◌<◌, ℕ, List, [], ◌∷◌, ◌++◌, length, take, drop, get_or}
use Rattle.std.specs.List.{AllByRecursion}
use Rattle.swh_base.specs.declared.kind.Kind.{Kind}
use Rattle.swh_base.specs.declared.entry.Entry.{Entry}
use Rattle.swh_model.specs.declared.event.Event.{Event}
use Rattle.swh_model.specs.Entries.{entries_of}
use Rattle.swh_object.specs.Object.{IsObject}
use Rattle.swh_format.specs.declared.kinds.RecordKind.TheVariants as of
use Rattle.swh_format.specs.Record.{magic}
use Rattle.swh_format.specs.BatchRecord.{run_from, run_to}
use Rattle.swh_format.specs.EventRecord.{event_byte, payload_of, packed_objects, IsCodable, AreCodable}
use Rattle.swh_format.specs.Stands.{coded_records, coded_runs}
use Rattle.swh_recovery.specs.declared.harm.Harm.TheVariants.{Magic, Short, Refused}
use Rattle.swh_recovery.specs.declared.harm.Found.{Found}
use Rattle.swh_format.specs.Fields.{FieldsHold, Spells}
use Rattle.swh_format.specs.Kinds.{byte_of, fields_of, payload_fields}
use Rattle.swh_recovery.specs.Fields.{found_at}
use Rattle.swh_recovery.specs.LedgerHarm.{BeginsRecord, RecordBreaks}
use Rattle.swh_recovery.specs.StoreHarm.{RunBreaks, HoldsRun}

-- No gate stands at the end of the ledger.
pub record GateIsMissing (gate : ℕ) (records : List ℕ) (file : ℕ) (found : Found) : Type 0 where
  pub none : records ≡ []
  pub file_is : file ≡ 0
  pub found_is : found ≡ found_at gate (Short 0 1)

-- A record breaks behind its open gate.
pub record LedgerBreaks (gate : ℕ) (records : List ℕ) (file : ℕ) (found : Found) : Type 0 where
  pub behind : List ℕ
  pub opened : records ≡ 1 ∷ behind
  pub file_is : file ≡ 0
  pub breaks : RecordBreaks behind (gate + 1) found

module _ (id_of : Kind → List ℕ → List ℕ) where
  -- A record has a batch's fields, and the run that they name breaks.
  pub record StoreBreaks (records store : List ℕ) (file : ℕ) (found : Found) : Type 0 where
    pub behind : List ℕ
    pub opened : records ≡ 1 ∷ behind
    pub frame : BeginsRecord behind
    pub batch : frame.kind ≡ byte_of of.Batch
    pub told : Spells (fields_of of.Batch) frame.payload
    pub file_is : file ≡ 1
    pub breaks : RunBreaks id_of (run_from told.holds) (run_to told.holds) store found

  -- The run that a batch's fields name is whole.
  pub record NamesRun (payload store : List ℕ) : Type 0 where
    pub told : Spells (fields_of of.Batch) payload
    pub entries : List Entry
    pub run : HoldsRun id_of (run_from told.holds) (run_to told.holds) store entries

  -- A record has its fields, and its run, where it is a batch's, is whole; but it is of no event whose run begins where
  -- the last one ends and stands there.
  pub record IsRefused (event gate start : ℕ) (records store : List ℕ) (file : ℕ) (found : Found) : Type 0 where
    pub behind : List ℕ
    pub opened : records ≡ 1 ∷ behind
    pub frame : BeginsRecord behind
    pub fields : FieldsHold (payload_fields frame.kind) frame.payload
    pub run : frame.kind ≡ byte_of of.Batch → NamesRun frame.payload store
    pub none : (e : Event) (y : List ℕ) → IsCodable start e → frame.kind ≡ event_byte e.what → frame.payload ≡ payload_of start e → drop start store ≡ packed_objects e.what ++ y → ⊥
    pub file_is : file ≡ 0
    pub found_is : found ≡ found_at gate (Refused event)

  -- What comes next has this harm: the record of the event of this number, whose gate is at the front of these bytes and
  -- at this place of the ledger, and whose run begins at this place of the store.
  abbrev pub NextBreaks : ℕ → ℕ → ℕ → List ℕ → List ℕ → ℕ → Found → Type 0
  NextBreaks event gate start records store file found =
      GateIsMissing gate records file found ⊎ (LedgerBreaks gate records file found ⊎ (StoreBreaks records store file found ⊎ IsRefused event gate start records store file found))

  -- The two files begin with what they have of these events, whose objects are of their kinds and named.
  pub record Begin (ledger store : List ℕ) (h : List Event) : Type 0 where
    pub records : List ℕ
    pub ledger_begins : ledger ≡ magic ++ (coded_records 0 h ++ records)
    pub store_rest : List ℕ
    pub store_begins : store ≡ coded_runs h ++ store_rest
    pub codable : AreCodable 0 h
    pub good : AllByRecursion (λ e. AllByRecursion (IsObject id_of) (entries_of e.what)) h

  -- What comes next after these events has this harm.
  pub record BreaksAfter (h : List Event) (ledger store : List ℕ) (file : ℕ) (found : Found) : Type 0 where
    pub fronts : Begin ledger store h
    pub next : NextBreaks (length h + 1) (8 + length (coded_records 0 h)) (length (coded_runs h)) fronts.records store file found

-- The first byte that is not the magic's stands at this place.
pub record MagicBreaks (ledger : List ℕ) (file : ℕ) (found : Found) : Type 0 where
  pub at : ℕ
  pub inside : at < 8
  pub front : take at ledger ≡ take at magic
  pub byte : ℕ
  pub rest : List ℕ
  pub is : drop at ledger ≡ byte ∷ rest
  pub other : byte ≢ get_or magic at 0
  pub file_is : file ≡ 0
  pub found_is : found ≡ found_at at (Magic byte)
