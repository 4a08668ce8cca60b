-- The events of records that were read.
use Rattle.std.specs.Prelude.{◌≡◌, ◌⊎◌, ◌+◌, ◌≤◌, ◌<◌, ◌^◌, ℕ, List, [], ◌∷◌, ◌++◌, length, drop}
use Rattle.std.specs.List.{AllByRecursion}
use Rattle.swh_base.specs.declared.kind.Kind.{Kind}
use Rattle.swh_base.specs.Limits.{file_limit}
use Rattle.swh_model.specs.Limits.{store_length, ledger_length}
use Rattle.swh_model.specs.declared.event.Event.{Event}
use Rattle.swh_object.specs.Object.{IsObject}
use Rattle.swh_format.specs.declared.frame.RecordParts.{RecordParts}
use Rattle.swh_format.specs.Record.{magic, framed}
use Rattle.swh_format.specs.LedgerReading.{IsGateClosed}
use Rattle.swh_recovery.specs.declared.reading.Reached.{Reached}
use Rattle.swh_format.specs.EventRecord.{event_byte, payload_of, packed_objects, coded_record, IsCodable, AreCodable}
use Rattle.swh_format.specs.Stands.{coded_records, coded_runs}
use Rattle.swh_recovery.specs.declared.harm.Harm.{Harm}
use Rattle.swh_recovery.specs.declared.harm.Harm.TheVariants.{Refused}
use Rattle.std.specs.Int.{w32, to_be_bytes}
use Rattle.swh_format.specs.Tells.{TellsWhole}
use Rattle.swh_recovery.specs.declared.harm.Found.{Found}
use Rattle.swh_recovery.specs.declared.fault.ReadFault.{ReadFault}
use Rattle.swh_recovery.specs.declared.fault.ReadFault.TheVariants as read
use Rattle.swh_recovery.specs.declared.fault.NextFault.{NextFault}
use Rattle.swh_recovery.specs.declared.fault.NextFault.TheVariants as next
use Rattle.swh_format.specs.declared.batch_record.RunTold.{RunTold}
use Rattle.swh_format.specs.Fields.{IsAmong, FieldsHold}
use Rattle.swh_format.specs.Kinds.{choices, payload_fields}
use Rattle.swh_recovery.specs.Fields.{found_at}
use Rattle.swh_format.specs.declared.kinds.Choice.TheVariants as choice
use Rattle.swh_model.specs.Entries.{entries_of}
use Rattle.swh_recovery.specs.Harms.{StoreBreaks, IsRefused, BreaksAfter, MagicBreaks}

-- a fault in a file of this number
abbrev pub in_file : ℕ → ReadFault → NextFault
in_file file read.DiskFailed = next.DiskFailed
in_file file read.Memory = next.Memory
in_file file (read.Harmed found) = next.Harmed file found

-- Where the fault is a harm, it has P.
abbrev pub IfNextHarmed : NextFault → (ℕ → Found → Type 0) → Type 0
IfNextHarmed next.DiskFailed P = Unit {0}
IfNextHarmed next.Memory P = Unit {0}
IfNextHarmed (next.Harmed file found) P = P file found

-- P, unless the disk failed.
abbrev pub UnlessDiskNext : NextFault → Type 0 → Type 0
UnlessDiskNext next.DiskFailed P = Unit {0}
UnlessDiskNext next.Memory P = P
UnlessDiskNext (next.Harmed file found) P = P

-- the bytes of a record's parts, from its open gate on
abbrev pub records_of : RecordParts → List ℕ
records_of p = 1 ∷ (framed p.kind p.payload.now ++ p.rest.now)

-- The parts are a record's, with the fields of its kind.
pub record IsWholeRecord (p : RecordParts) : Type 0 where
  pub is_kind : IsAmong p.kind (choices choice.Record)
  pub short : length p.payload.now < 2 ^ 32
  pub fields_hold : FieldsHold (payload_fields p.kind) p.payload.now

-- The run is what a batch's payload tells: it begins at this place, has so many objects, and nothing else is told.
pub record IsToldExactly (start number : ℕ) (t : RunTold) : Type 0 where
  pub from_is : t.from ≡ start
  pub to_is : start ≤ t.to
  pub number_is : t.number ≡ number
  pub nothing_left : t.left.now ≡ []

module _ (id_of : Kind → List ℕ → List ℕ) where
  -- The event of the record of these parts was read, with a run that ends at this place of the store.
  pub record IsEventRead (start : ℕ) (p : RecordParts) (e : Event) (end : ℕ) : Type 0 where
    pub codable : IsCodable start e
    pub ledger : framed p.kind p.payload.now ≡ coded_record start e
    pub end_is : end ≡ start + length (packed_objects e.what)
    pub good : AllByRecursion (IsObject id_of) (entries_of e.what)

  -- The record of these parts, which has its fields, has this harm.
  abbrev pub EventBreaks : ℕ → ℕ → ℕ → RecordParts → List ℕ → ℕ → Found → Type 0
  EventBreaks number gate start p store file found = StoreBreaks id_of (records_of p) store file found ⊎ IsRefused id_of number gate start (records_of p) store file found

  -- The events fit their fields, their objects are of their kinds and named, and both files have room for them.
  pub record AreWhole (h : List Event) : Type 0 where
    pub codable : AreCodable 0 h
    pub good : AllByRecursion (λ e. AllByRecursion (IsObject id_of) (entries_of e.what)) h
    pub store_fits : store_length h ≤ file_limit
    pub ledger_fits : ledger_length h ≤ file_limit

  -- The first harm of the two files, in the file of this number, at this place, and the events of the records before it.
  abbrev pub IsHarm : List ℕ → List ℕ → ℕ → ℕ → Harm → List Event → Type 0
  IsHarm ledger store file at harm before =
      (MagicBreaks ledger file (found_at at harm) × (before ≡ [])) ⊎ BreaksAfter id_of before ledger store file (found_at at harm)

-- The event of the record of these parts was read, and it is no batch.
pub record IsWholeRead (p : RecordParts) (e : Event) : Type 0 where
  pub rest : List ℕ
  pub who : p.payload.now ≡ to_be_bytes w32 e.by ++ rest
  pub by_fits : e.by < 2 ^ 32
  pub tells : TellsWhole p.kind rest e.what

-- The payload of these parts is that of no event, wherever its run would begin, and this is told of the record.
pub record IsNotTold (gate number : ℕ) (p : RecordParts) (file : ℕ) (found : Found) : Type 0 where
  pub none : (start : ℕ) (e : Event) → IsCodable start e → p.kind ≡ event_byte e.what → p.payload.now ≡ payload_of start e → ⊥
  pub file_is : file ≡ 0
  pub found_is : found ≡ found_at gate (Refused number)

-- The store begins with the runs of the events.
pub record HasRuns (store : List ℕ) (r : Reached) : Type 0 where
  pub store_begins : store ≡ coded_runs r.events.items ++ drop r.end store

-- The store holds the run of the event from this place on, up to the other.
pub record HoldsEvent (start : ℕ) (store : List ℕ) (e : Event) (end : ℕ) : Type 0 where
  pub run : drop start store ≡ packed_objects e.what ++ drop end store

module _ (id_of : Kind → List ℕ → List ℕ) where
  -- The events are those of the records up to this gate of the ledger, their runs end at this place of a store, and their
  -- objects are of their kinds and named.
  pub record IsReadSoFar (ledger : List ℕ) (r : Reached) : Type 0 where
    pub gate_is : r.gate ≡ 8 + length (coded_records 0 r.events.items)
    pub ledger_begins : ledger ≡ magic ++ (coded_records 0 r.events.items ++ drop r.gate ledger)
    pub end_is : r.end ≡ length (coded_runs r.events.items)
    pub codable : AreCodable 0 r.events.items
    pub good : AllByRecursion (λ e. AllByRecursion (IsObject id_of) (entries_of e.what)) r.events.items

  -- The next record after these has this harm.
  abbrev pub BreaksNext : List ℕ → List ℕ → Reached → ℕ → Found → Type 0
  BreaksNext ledger store r file found = BreaksAfter id_of r.events.items ledger store file found

-- They reach within a ledger and a store of these lengths.
pub record IsInside (ledger store : ℕ) (r : Reached) : Type 0 where
  pub gate_inside : r.gate ≤ ledger
  pub end_inside : r.end ≤ store

-- The gate here is closed.
abbrev pub IsAtEnd : List ℕ → Reached → Type 0
IsAtEnd ledger r = IsGateClosed (drop r.gate ledger)
