-- What the record of a disk's calls says.
use Rattle.std.specs.Prelude.{ℕ, Bool, true, false, ◌+◌, List, [], ◌∷◌, ◌++◌, take, drop, if◌then◌else◌}
use Rattle.swh_outside.specs.Disk.{Call, Write, Sync}
use Rattle.swh_memory_disk.specs.declared.record.MemoryCall.{MemoryCall}
use Rattle.swh_memory_disk.specs.declared.record.MemoryCall.TheVariants.{Length, Read, Written, Synced}
use Rattle.swh_memory_disk.specs.declared.record.MemoryRecord.{MemoryRecord}

-- how many bytes a call carries
abbrev pub size_of : MemoryCall → ℕ
size_of Length = 0
size_of (Read at count) = 0
size_of (Written at count) = count
size_of Synced = 0

-- the call as a plan of device calls has it, with these bytes where it is a write; none where it changes nothing that a
-- crash may leave
abbrev pub call_of : MemoryCall → List ℕ → List Call
call_of Length bytes = []
call_of (Read at count) bytes = []
call_of (Written at count) bytes = Write at bytes ∷ []
call_of Synced bytes = Sync ∷ []

-- it is no write
abbrev pub IsBare : MemoryCall → Type 0
IsBare Length = Unit {0}
IsBare (Read at count) = Unit {0}
IsBare (Written at count) = ⊥
IsBare Synced = Unit {0}

-- it changes what a crash may leave
abbrev pub is_change : MemoryCall → Bool
is_change Length = false
is_change (Read at count) = false
is_change (Written at count) = true
is_change Synced = true

-- how many bytes all calls on record carry
abbrev pub sizes_of : List MemoryRecord → ℕ
sizes_of [] = 0
sizes_of (r ∷ calls) = size_of r.call + sizes_of calls

-- the writes and barriers on record, where these bytes are those of the writes, one after another
abbrev pub calls_in : List MemoryRecord → List ℕ → List Call
calls_in [] written = []
calls_in (r ∷ calls) written = call_of r.call (take (size_of r.call) written) ++ calls_in calls (drop (size_of r.call) written)

-- one call more is on record, if there is room for it
abbrev pub noted : Bool → List MemoryRecord → MemoryCall → Bool → List MemoryRecord
noted has_room calls call failed = if has_room then calls ++ record { call = call; failed = failed } ∷ [] else calls
