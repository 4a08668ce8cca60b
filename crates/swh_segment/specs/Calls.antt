-- The device calls that add an event, or several, in order.
use Rattle.std.specs.Prelude.{ℕ, ◌+◌, List, [], ◌∷◌, ◌++◌, Option, Some, None}
use Rattle.swh_outside.specs.Disk.{Call, Write, Sync}
use Rattle.swh_outside.specs.Files.{FileCall, on}
use Rattle.swh_model.specs.declared.event.Event.{Event}
use Rattle.swh_model.specs.Limits.{store_length, records_length}
use Rattle.swh_format.specs.EventRecord.{coded_record, run_written}

-- bytes are written, and a barrier
abbrev pub write_calls : ℕ → List ℕ → List Call
write_calls at bytes = Write at bytes ∷ Sync ∷ []

-- the device calls that add a record whose gate is at `end`: the record with the next gate, and then its gate
abbrev pub append_calls : ℕ → List ℕ → List Call
append_calls end bytes = write_calls (end + 1) bytes ++ write_calls end (1 ∷ [])

-- The device calls for a run: one write, left out where it is empty, and a barrier; none where there is no run.
abbrev pub run_calls : ℕ → Option (List ℕ) → List Call
run_calls at None = []
run_calls at (Some []) = Sync ∷ []
run_calls at (Some (b ∷ bytes)) = Write at (b ∷ bytes) ∷ Sync ∷ []

-- The device calls that add an event: its run, then its record after the closed gate with the next gate, and then
-- its gate, each with a barrier after it.
abbrev pub event_calls : ℕ → Option (List ℕ) → ℕ → List ℕ → List FileCall
event_calls store_end run end bytes = on 1 (run_calls store_end run) ++ on 0 (append_calls end bytes)

-- The device calls that add an event after a history.
abbrev pub calls_for : List Event → Event → List FileCall
calls_for h e = event_calls (store_length h) (run_written e.what) (8 + records_length h) (coded_record (store_length h) e ++ 0 ∷ [])

-- the device calls that add several events to a history, one after another
abbrev pub all_calls : List Event → List Event → List FileCall
all_calls h [] = []
all_calls h (e ∷ more) = calls_for h e ++ all_calls (h ++ e ∷ []) more
