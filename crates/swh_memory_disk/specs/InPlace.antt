-- What the places of a depot in memory hold.
use Rattle.std.specs.Prelude.{◌≡◌, ◌≢◌, ◌⊎◌, ◌<◌, ◌&&◌, ◌||◌, nat_eq, ℕ, Bool, List, length, string_bytes}
use Rattle.std.specs.List.{position_or_len}
use Rattle.std.specs.Str.{bytes_eq}
use Rattle.swh_outside.specs.Disk.{File}
use Rattle.swh_outside.specs.Files.{absent}
use Rattle.swh_outside.specs.Firsts.{first_or}
use Rattle.swh_memory_disk.specs.Memory.{memory_file, DiskNotes, notes_of, new_notes}
use Rattle.swh_memory_failures.specs.Tally.{Tally, is_next_listed}
use Rattle.swh_memory_disk.specs.declared.depot_file.DepotFile.{DepotFile}
use Rattle.swh_memory_disk.specs.declared.depot.MemoryDepot.{MemoryDepot}
use Rattle.swh_memory_disk.specs.declared.record.Room.{Room}

-- it is the place of this file
abbrev pub is_at : List ℕ → ℕ → DepotFile → Bool
is_at dir file place = nat_eq place.file file && bytes_eq (string_bytes place.dir) dir

-- the file of a place
abbrev pub file_at : DepotFile → File
file_at place = memory_file place.disk

-- the file at the first place that it has, or an empty one
abbrev pub files_in : List DepotFile → List ℕ → ℕ → File
files_in places dir file = first_or (is_at dir file) file_at absent places

-- what is kept of the disk at a place
abbrev pub notes_at : DepotFile → DiskNotes
notes_at place = notes_of place.disk

-- what is kept of the disk at the first place that it has, or of a new one of this room
abbrev pub notes_in : Room → List DepotFile → List ℕ → ℕ → DiskNotes
notes_in room places dir file = first_or (is_at dir file) notes_at (new_notes room) places

-- what is kept of every disk but one's is as before
pub record SameNotesButAt (dir : List ℕ) (number : ℕ) (before now : List ℕ → ℕ → DiskNotes) : Type 0 where
  pub at_other : (d : List ℕ) (n : ℕ) → (d ≢ dir) ⊎ (n ≢ number) → now d n ≡ before d n

-- the files of a depot that are not open
abbrev pub memory_files : MemoryDepot → List ℕ → ℕ → File
memory_files depot = files_in depot.places.items

-- what is kept of the disks that are not open
abbrev pub memory_notes : MemoryDepot → List ℕ → ℕ → DiskNotes
memory_notes depot = notes_in depot.room depot.places.items

-- the file was opened or laid down before
abbrev pub has_place : MemoryDepot → List ℕ → ℕ → Type 0
has_place depot dir file = position_or_len (is_at dir file) depot.places.items < length depot.places.items

-- the room of the disks that it makes
abbrev pub depot_room : MemoryDepot → Room
depot_room depot = depot.room

-- what is kept of the depot's openings
abbrev pub depot_tally : MemoryDepot → Tally
depot_tally depot = depot.failures

-- how often it has failed
abbrev pub depot_faults : MemoryDepot → ℕ
depot_faults depot = depot.failures.faults

-- the next opening in the folder is to fail
abbrev pub is_open_to_fail : MemoryDepot → List ℕ → Bool
is_open_to_fail depot dir = is_next_listed (depot_tally depot) || nat_eq (length dir) 0
