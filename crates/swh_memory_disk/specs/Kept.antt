-- What the fields of a disk in memory say of its file.
use Rattle.std.specs.Prelude.{ℕ, List, [], length, reverse}
use Rattle.swh_outside.specs.Disk.{File, Call}

-- the file of these fields: the ranges are kept with the newest last
abbrev pub kept_file : List ℕ → List (ℕ × ℕ) → ℕ → List ℕ → List Call → File
kept_file base ranges longest seen calls = record { base = base; ranges = reverse ranges; longest = longest; seen = seen; calls = calls }

-- a file with these bytes, all of them on the disk, and no call so far
abbrev pub resting : List ℕ → File
resting bytes = record { base = bytes; ranges = []; longest = length bytes; seen = bytes; calls = [] }
