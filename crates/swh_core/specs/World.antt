-- The interleaved world: one archive, its two files and what each actor has seen, and what is made of it. It is the plain
-- struct `Parts` of src/parts.rt, and a file of it `Disk` of src/disk.rt.
use Rattle.std.specs.Prelude.{ℕ, ◌-◌, nat_le, if◌then◌else◌, Some, None, List, [], ◌∷◌, ◌++◌, length, map, take, drop, slice_set, replicate}
use Rattle.swh_outside.specs.Disk.{File, begun}
use Rattle.swh_outside.specs.Files.{Files, FileCall, files_of, files_done, with_file}
use Rattle.swh_model.specs.declared.event.Event.{Event}
use Rattle.swh_format.specs.Record.{magic}
use Rattle.swh_segment.specs.Calls.{calls_for}
use Rattle.swh_core.specs.declared.disk.Disk.{Disk}
use Rattle.swh_core.specs.declared.disk.Disks.{Disks}
use Rattle.swh_core.specs.declared.parts.Parts.{Parts as World}

-- a world's file as the disk model has it, of which no call is remembered
abbrev pub file_of : Disk → File
file_of d = record { base = d.base; ranges = d.ranges; longest = d.longest; seen = d.seen; calls = [] }

-- the two files by their numbers
abbrev pub files_on : Disks → Files
files_on disks = files_of (file_of disks.ledger) (file_of disks.store)

-- and back: all but the calls that were made on it
abbrev pub disk_of : File → Disk
disk_of f = record { base = f.base; ranges = f.ranges; longest = f.longest; seen = f.seen }

-- the ledger and the store among files
abbrev pub disks_in : Files → Disks
disks_in files = record { ledger = disk_of (files 0); store = disk_of (files 1) }

-- the file that holds these bytes, with nothing written since a barrier
abbrev pub rested_disk : List ℕ → Disk
rested_disk bytes = record { base = bytes; ranges = []; longest = length bytes; seen = bytes }

-- two such files
abbrev pub rested : List ℕ → List ℕ → Disks
rested ledger store = record { ledger = rested_disk ledger; store = rested_disk store }

-- the two files after these calls
abbrev pub called : List FileCall → Disks → Disks
called calls disks = disks_in (files_done calls (files_on disks))

-- the files once the first of these calls, if there is one, has begun
abbrev pub first_begun : List FileCall → Files → Files
first_begun [] files = files
first_begun (call ∷ calls) files = with_file call.0 (begun call.1 (files call.0)) files

-- the two files where the call of this number, from 1, failed: those before it were made, and it was begun
abbrev pub failed_at : ℕ → List FileCall → Disks → Disks
failed_at number calls disks =
    disks_in (first_begun (drop (number - 1) calls) (files_done (take (number - 1) calls) (files_on disks)))

-- a made, empty archive, of which so many actors have seen nothing
abbrev pub first_world : ℕ → World
first_world actors = record {
  history = [];
  shown = 0;
  doubt = None;
  disks = rested (magic ++ 0 ∷ []) [];
  seen = replicate actors [];
  kept = [];
}

abbrev pub longer : List Event → List Event → List Event
longer a b = if nat_le (length a) (length b) then b else a

-- the world once the actor has seen this front
abbrev pub sees : ℕ → List Event → World → World
sees actor front w = record w { seen = slice_set w.seen actor front; kept = longer w.kept front }

-- once all that waited is shown
abbrev pub all_shown : World → World
all_shown w = record w { shown = length w.history }

-- once all that waited is shown, and the actor has seen it
abbrev pub sees_all : ℕ → World → World
sees_all actor w = sees actor w.history (all_shown w)

-- once the event joined the history, durably; it waits to be shown
abbrev pub joined : Event → World → World
joined event w = record w { history = w.history ++ event ∷ []; disks = called (calls_for w.history event) w.disks }

-- once the event is in doubt, whose device call of this number failed
abbrev pub in_doubt : Event → ℕ → World → World
in_doubt event call w = record w { doubt = Some event; disks = failed_at call (calls_for w.history event) w.disks }

-- once the files are these images, which stand for this history: all actors begin anew
abbrev pub reopened : List Event → List ℕ → List ℕ → World → World
reopened h ledger store w = record {
  history = h;
  shown = length h;
  doubt = None;
  disks = rested ledger store;
  seen = map (λ _. h) w.seen;
  kept = longer w.kept h;
}
