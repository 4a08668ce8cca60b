-- What is counted, and the lengths that a history gives the two files.
use Rattle.std.specs.Prelude.{ℕ, ◌+◌, ◌≤◌, Option, Some, None, List, [], ◌∷◌, length}
use Rattle.std.specs.List.{AllByRecursion}
use Rattle.swh_base.specs.declared.entry.Entry.{Entry}
use Rattle.swh_base.specs.Limits.{body_limit, bytes_limit, objects_limit}
use Rattle.swh_model.specs.declared.event.Event.{Event}
use Rattle.swh_model.specs.declared.event.EventKind.{EventKind}
use Rattle.swh_model.specs.declared.event.EventKind.TheVariants.{Batch, Open, Mark}
use Rattle.swh_model.specs.Entries.{entries_of}

-- the bytes of all bodies but the last one's
abbrev pub bytes_before_last : List Entry → ℕ
bytes_before_last [] = 0
bytes_before_last (e ∷ []) = 0
bytes_before_last (e ∷ f ∷ es) = length e.body + bytes_before_last (f ∷ es)

-- A batch of these is within the limits.
pub record IsWithinLimits (entries : List Entry) : Type 0 where
  pub bodies : AllByRecursion (λ e. length e.body ≤ body_limit) entries
  pub objects : length entries ≤ objects_limit
  pub bytes : bytes_before_last entries ≤ bytes_limit

-- an object in the store: its kind in a byte, its body's length in eight, its id and its body
abbrev pub object_length : Entry → ℕ
object_length e = 9 + (length e.name.id + length e.body)

-- the objects of a batch, one after another
abbrev pub run_length : List Entry → ℕ
run_length [] = 0
run_length (e ∷ es) = object_length e + run_length es

-- the bytes that an event adds to the store
abbrev pub stored_length : EventKind → ℕ
stored_length what = run_length (entries_of what)

-- a byte, and a snapshot's id where there is one
abbrev pub snapshot_length : Option (List ℕ) → ℕ
snapshot_length None = 1
snapshot_length (Some id) = 1 + length id

-- the payload of an event's record: who in four bytes, and what is said of the event
abbrev pub payload_length : EventKind → ℕ
-- two places of the store in eight bytes each, and a number in four
payload_length (Batch entries) = 4 + (8 + 8 + 4)
-- the kind in a byte, the date in eight, and the origin
payload_length (Open origin kind date) = 4 + (1 + 8 + length origin)
-- the status in a byte, the visit's number in eight, the snapshot and the origin
payload_length (Mark origin visit status snapshot) = 4 + (1 + 8 + (snapshot_length snapshot + length origin))

-- where the runs of a history end in the store
abbrev pub store_length : List Event → ℕ
store_length [] = 0
store_length (e ∷ es) = stored_length e.what + store_length es

-- each record with its kind, its length and the gate after it
abbrev pub records_length : List Event → ℕ
records_length [] = 0
records_length (e ∷ es) = (6 + payload_length e.what) + records_length es

-- the magic and the first gate, then the records
abbrev pub ledger_length : List Event → ℕ
ledger_length history = 9 + records_length history
