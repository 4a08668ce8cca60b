-- What a file in memory was after each number of its calls.
use Rattle.std.specs.Prelude.{◌≡◌, ◌<◌, ◌⊎◌, ℕ, min, max, Bool, List, [], ◌∷◌, length, get_or, take, drop, reverse, if◌then◌else◌}
use Rattle.swh_outside.specs.Disk.{File, IsImage, IsOutside, Write, Sync, begun, done}
use Rattle.swh_memory_disk.specs.Kept.{resting}
use Rattle.swh_memory_disk.specs.Record.{size_of}
use Rattle.swh_memory_disk.specs.declared.record.MemoryCall.{MemoryCall}
use Rattle.swh_memory_disk.specs.declared.record.MemoryCall.TheVariants.{Length, Read, Written, Synced}
use Rattle.swh_memory_disk.specs.declared.record.MemoryRecord.{MemoryRecord}

-- the file after a call with these bytes: one that failed was begun, and no more
abbrev pub left_by : MemoryCall → Bool → List ℕ → File → File
left_by Length failed bytes file = file
left_by (Read at count) failed bytes file = file
left_by (Written at count) failed bytes file = if failed then begun (Write at bytes) file else done (Write at bytes) file
left_by Synced failed bytes file = if failed then begun Sync file else done Sync file

-- the file after these calls, where the bytes are those of the writes, one after another
abbrev pub file_after : List MemoryRecord → List ℕ → File → File
file_after [] written file = file
file_after (r ∷ calls) written file = file_after calls (drop (size_of r.call) written) (left_by r.call r.failed (take (size_of r.call) written) file)

-- the file has these bytes at the last barrier, ranges since (the newest last), greatest length since, and bytes that a read gives
pub record IsKeptAs (file : File) (base : List ℕ) (ranges : List (ℕ × ℕ)) (longest : ℕ) (seen : List ℕ) : Type 0 where
  pub base_is : file.base ≡ base
  pub ranges_are : file.ranges ≡ reverse ranges
  pub longest_is : file.longest ≡ longest
  pub seen_is : file.seen ≡ seen

-- the fields of a disk say what its calls left of the bytes that it was made with
abbrev pub IsRecorded : List ℕ → List MemoryRecord → List ℕ → List ℕ → List (ℕ × ℕ) → ℕ → List ℕ → Type 0
IsRecorded made calls written base ranges longest seen = IsKeptAs (file_after calls written (resting made)) base ranges longest seen

-- The image nearest to some bytes: their length, as far as lengths allow it, and their bytes wherever a crash may leave
-- any, or zeros where they have none.
pub record IsNearest (file : File) (choice image : List ℕ) : Type 0 where
  pub is_image : IsImage file image
  pub length_is : length image ≡ max (length file.base) (min file.longest (length choice))
  pub free : (k : ℕ) → k < length image → (k < length file.base → IsOutside file.ranges k → ⊥) → get_or image k 0 ≡ get_or choice k 0

-- a byte of it, at a place: that of the last barrier where a crash leaves that, and else the one that is chosen
abbrev pub IsByteNear : List ℕ → List (ℕ × ℕ) → List ℕ → ℕ → ℕ → Type 0
IsByteNear base ranges choice k b =
    ((k < length base) × IsOutside (reverse ranges) k × (b ≡ get_or base k 0)) ⊎ ((k < length base → IsOutside (reverse ranges) k → ⊥) × (b ≡ get_or choice k 0))
