-- What a disk in memory holds, its room, and what is kept of its calls.
use Rattle.std.specs.Prelude.{◌≡◌, ◌≤◌, ℕ, Bool, ◌+◌, ◌&&◌, ◌||◌, not, nat_lt, nat_le, List, [], length, take, if◌then◌else◌}
use Rattle.swh_outside.specs.Disk.{File, Call, begun}
use Rattle.swh_memory_disk.specs.Kept.{kept_file, resting}
use Rattle.swh_memory_disk.specs.Record.{calls_in}
use Rattle.swh_memory_disk.specs.Past.{file_after}
use Rattle.swh_memory_failures.specs.Tally.{Tally, fresh_tally, is_next_listed}
use Rattle.swh_memory_disk.specs.declared.record.MemoryRecord.{MemoryRecord}
use Rattle.swh_memory_disk.specs.declared.record.Room.{Room}
use Rattle.swh_memory_disk.specs.declared.disk.MemoryDisk.{MemoryDisk}

-- the file that a disk in memory is
abbrev pub memory_file : MemoryDisk → File
memory_file disk = kept_file disk.base.items disk.ranges.items disk.longest disk.bytes.items (calls_in disk.calls.items disk.written.items)

-- the room that it was made with
abbrev pub disk_room : MemoryDisk → Room
disk_room disk = disk.room

-- the calls on record
abbrev pub disk_calls : MemoryDisk → List MemoryRecord
disk_calls disk = disk.calls.items

-- which of its calls are to fail, and how many did
abbrev pub disk_tally : MemoryDisk → Tally
disk_tally disk = disk.failures

-- how often it has failed
abbrev pub disk_faults : MemoryDisk → ℕ
disk_faults disk = disk.failures.faults

-- What is kept of a disk beside its file: its room, the calls on record, and which calls are to fail.
pub record DiskNotes : Type 0 where
  pub room : Room
  pub calls : List MemoryRecord
  pub tally : Tally

-- what is kept of this disk
abbrev pub notes_of : MemoryDisk → DiskNotes
notes_of disk = record { room = disk.room; calls = disk.calls.items; tally = disk.failures }

-- what is kept of a new disk of this room: no call was made, and none is to fail
abbrev pub new_notes : Room → DiskNotes
new_notes room = record { room = room; calls = []; tally = fresh_tally [] }

-- the same, with no failure so far
abbrev pub reopened : DiskNotes → DiskNotes
reopened notes = record {
  room = notes.room;
  calls = notes.calls;
  tally = record { failing = notes.tally.failing; calls = notes.tally.calls; faults = 0 };
}

-- the file as it was after this number of the calls on record, or after all where there are fewer
abbrev pub moment_file : MemoryDisk → ℕ → File
moment_file disk moment = file_after (take moment disk.calls.items) disk.written.items (resting disk.made.items)

-- What the file was after each number of the calls so far is the same.
pub record KeepsMoments (old new : MemoryDisk) : Type 0 where
  pub same : (moment : ℕ) → moment ≤ length old.calls.items → moment_file new moment ≡ moment_file old moment

-- one call more is within the room
abbrev pub has_call_room : MemoryDisk → Bool
has_call_room disk = nat_lt (length disk.calls.items) disk.room.calls

-- one call more, a write of so many bytes at a place, is within the room
abbrev pub has_write_room : MemoryDisk → ℕ → ℕ → Bool
has_write_room disk at count = has_call_room disk && (nat_le (at + count) disk.room.bytes && nat_le (length disk.written.items + count) disk.room.bytes)

-- the next call is to fail
abbrev pub is_call_to_fail : MemoryDisk → Bool
is_call_to_fail disk = is_next_listed (disk_tally disk) || not (has_call_room disk)

-- the next call, a write of so many bytes at a place, is to fail
abbrev pub is_write_to_fail : MemoryDisk → ℕ → ℕ → Bool
is_write_to_fail disk at count = is_next_listed (disk_tally disk) || not (has_write_room disk at count)

-- the file after a call that failed: it was begun where there was room for it
abbrev pub begun_within : Bool → Call → File → File
begun_within has_room call file = if has_room then begun call file else file
