-- Two files stand for a history: they stand for the records and runs of its events, in order.
use Rattle.std.specs.Prelude.{ℕ, ◌+◌, List, [], ◌∷◌, ◌++◌, length}
use Rattle.swh_model.specs.declared.event.Event.{Event}
use Rattle.swh_format.specs.Record.{coded}
use Rattle.swh_format.specs.Events.{Append, FilesStand, records}
use Rattle.swh_format.specs.EventRecord.{packed_objects, run_written, record_of, AreCodable}

-- an event whose run begins at this place of the store, as the two files have it
abbrev pub written : ℕ → Event → Append
written at e = record { entry = record_of at e; run = run_written e.what }

-- the events as the two files have them, from this place of the store on; a run begins where the last one ends
abbrev pub all_written : ℕ → List Event → List Append
all_written at [] = []
all_written at (e ∷ h) = written at e ∷ all_written (at + length (packed_objects e.what)) h

-- the records of these events, each after an open gate
abbrev pub coded_records : ℕ → List Event → List ℕ
coded_records at h = coded (records (all_written at h))

-- the runs of these events, one after another
abbrev pub coded_runs : List Event → List ℕ
coded_runs [] = []
coded_runs (e ∷ h) = packed_objects e.what ++ coded_runs h

-- The files stand for what is written of the events, and these fit their fields.
pub record StandsFor (ledger store : List ℕ) (h : List Event) : Type 0 where
  pub files : FilesStand ledger store (all_written 0 h)
  pub codable : AreCodable 0 h
