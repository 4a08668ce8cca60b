-- The files of an archive's folder.
use Rattle.std.specs.Prelude.{◌≡◌, ◌≢◌, ◌⊎◌, ◌<◌, ℕ, List}
use Rattle.swh_outside.specs.Files.{Files, files_of}
use Rattle.swh_exit.specs.Seen.{Folders, Span}

-- the archive in a folder: file 0 is the ledger, file 1 the store
abbrev pub archive_at : Folders → List ℕ → Files
archive_at folders dir = files_of (folders dir 0) (folders dir 1)

-- all files are as before but the two of this folder
pub record SameElsewhere (dir : List ℕ) (before now : Folders) : Type 0 where
  pub elsewhere : (d : List ℕ) (n : ℕ) → (d ≢ dir) ⊎ (1 < n) → now d n ≡ before d n

-- the archive in a folder at the start of a run
abbrev pub old_archive : List ℕ → Span → Files
old_archive dir s = archive_at s.old.depot.files dir

-- the archive in a folder at its end
abbrev pub new_archive : List ℕ → Span → Files
new_archive dir s = archive_at s.new.depot.files dir
