-- What the rows under a directory weigh: as rows, as files, and as lines of the listing.
use Rattle.std.specs.Prelude.{◌+◌, ℕ, true, false, Option, Some, None, length}
use Rattle.swh_base.specs.Directory.{DirectoryEntry}
use Rattle.swh_model.specs.Archive.{Bodies}
use Rattle.swh_listing.specs.declared.listed.Mode.{Mode}
use Rattle.swh_listing.specs.Line.{mode_text}
use Rattle.swh_pathsums.specs.declared.weight.Weight.{Weight}
use Rattle.swh_dircook.specs.Listing.{mode_of}
use Rattle.swh_dircook.specs.Rules.{file_length}

-- each entry is one row
abbrev pub row_weight : DirectoryEntry → Weight
row_weight e = record { bytes = 1; with_path = false }

-- each entry has the bytes of its file
abbrev pub file_weight : Bodies → DirectoryEntry → Weight
file_weight bodies e = record { bytes = file_length bodies e; with_path = false }

-- so many bytes, and the path
abbrev pub listed_weight : ℕ → Weight
listed_weight bytes = record { bytes = bytes; with_path = true }

-- a line has its mode, the path and an LF; no line has nothing
abbrev pub mode_weight : Option Mode → Weight
mode_weight None = record { bytes = 0; with_path = false }
mode_weight (Some mode) = listed_weight (length (mode_text mode) + 1)

-- each entry has the line that the listing has of it
abbrev pub line_weight : DirectoryEntry → Weight
line_weight e = mode_weight (mode_of e)
