-- The record of an event, and what the event adds to the store.
use Rattle.std.specs.Prelude.{ℕ, ◌+◌, ◌<◌, ◌^◌, Option, Some, None, List, [], ◌∷◌, length}
use Rattle.swh_model.specs.declared.event.Event.{Event}
use Rattle.swh_model.specs.declared.event.EventKind.{EventKind}
use Rattle.swh_model.specs.declared.event.EventKind.TheVariants.{Batch, Open, Mark}
use Rattle.swh_format.specs.Fields.{text, Contents}
use Rattle.swh_format.specs.Kinds.{byte_of, told_fields, fields_of}
use Rattle.swh_format.specs.declared.kinds.RecordKind.{RecordKind}
use Rattle.swh_format.specs.declared.kinds.RecordKind.TheVariants as kind
use Rattle.swh_format.specs.Record.{Record, body}
use Rattle.swh_format.specs.Events.{run_bytes}
use Rattle.swh_format.specs.StoredObject.{coded_run}
use Rattle.swh_format.specs.BatchRecord.{batch_contents, IsCodableBatch}
use Rattle.swh_format.specs.OpenRecord.{open_contents, IsCodableOpen}
use Rattle.swh_format.specs.MarkRecord.{mark_contents, IsCodableMark}

-- the run that an event adds to the store, if it adds one
abbrev pub run_written : EventKind → Option (List ℕ)
run_written (Batch entries) = Some (coded_run entries)
run_written _ = None

-- the bytes that an event adds to the store
abbrev pub packed_objects : EventKind → List ℕ
packed_objects what = run_bytes (run_written what)

-- the kind of the event's record
abbrev pub kind_of : EventKind → RecordKind
kind_of (Batch entries) = kind.Batch
kind_of (Open origin visit_kind date) = kind.Open
kind_of (Mark origin visit status snapshot) = kind.Mark

-- that kind as a byte
abbrev pub event_byte : EventKind → ℕ
event_byte what = byte_of (kind_of what)

-- what the fields hold of an event whose run begins at this place of the store
abbrev pub contents_of : ℕ → (what : EventKind) → Contents (told_fields (kind_of what))
contents_of at (Batch entries) = batch_contents at (at + length (coded_run entries)) (length entries)
contents_of at (Open origin visit_kind date) = open_contents visit_kind date
contents_of at (Mark origin visit status snapshot) = mark_contents status visit snapshot

-- what is behind the fields: the origin, where there is one
abbrev pub behind_fields : EventKind → List ℕ
behind_fields (Batch entries) = []
behind_fields (Open origin visit_kind date) = origin
behind_fields (Mark origin visit status snapshot) = origin

-- what is said of an event whose run begins at this place of the store
abbrev pub event_payload : ℕ → EventKind → List ℕ
event_payload at what = text (told_fields (kind_of what)) (contents_of at what) (behind_fields what)

-- who, in four bytes, and what is said of the event
abbrev pub payload_of : ℕ → Event → List ℕ
payload_of at e = text (fields_of (kind_of e.what)) (e.by, contents_of at e.what) (behind_fields e.what)

-- the record of an event whose run begins at this place of the store
abbrev pub record_of : ℕ → Event → Record
record_of at e = record { kind = event_byte e.what; payload = payload_of at e }

-- and its bytes after the gate
abbrev pub coded_record : ℕ → Event → List ℕ
coded_record at e = body (record_of at e)

-- What is said of the event fits its record.
abbrev pub IsCodableKind : ℕ → EventKind → Type 0
IsCodableKind at (Batch entries) = IsCodableBatch at entries
IsCodableKind at (Open origin visit_kind date) = IsCodableOpen origin date
IsCodableKind at (Mark origin visit status snapshot) = IsCodableMark origin visit status snapshot

-- All parts of the event fit their fields.
abbrev pub IsCodable : ℕ → Event → Type 0
IsCodable at e = (e.by < 2 ^ 32) × IsCodableKind at e.what

-- All parts of these events fit their fields.
abbrev pub AreCodable : ℕ → List Event → Type 0
AreCodable at [] = Unit {0}
AreCodable at (e ∷ es) = IsCodable at e × AreCodable (at + length (packed_objects e.what)) es
