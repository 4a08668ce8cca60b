-- The files of a tree.
use Rattle.std.specs.Prelude.{◌≡◌, ◌≢◌, ℕ, List, ◌++◌, Contains}
use Rattle.swh_base.specs.declared.name.Name.{Name}
use Rattle.swh_base.specs.Directory.{DirectoryEntry}
use Rattle.swh_dirfmt.specs.declared.entry.SpelledEntry.{SpelledEntry}
use Rattle.swh_dirfmt.specs.Entries.{entry_of}
use Rattle.swh_model.specs.Archive.{Bodies}
use Rattle.swh_revfmt.specs.Plain.{PlainRevision}
use Rattle.swh_graph.specs.Path.{directory_name}
use Rattle.swh_pathwalk.specs.Tree.{Row, IsPathWalk}
use Rattle.swh_pathwalk.specs.Walk.{Coming, Remain}
use Rattle.swh_pathwalk.specs.Weight.{LeadInto}
use Rattle.swh_fastcook.specs.Stream.{content_name, files_text, commit_text}

-- Where the entry is a file, its content is one of these names.
abbrev pub IsFileIn : List Name → DirectoryEntry → Type 0
IsFileIn names e = e.mode ≢ 40000 → e.mode ≢ 160000 → Contains names (content_name e.id)

-- an entry at its path
abbrev pub row_at : List ℕ → SpelledEntry → Row
row_at path e = record { path = path; entry = entry_of e }

-- Each file that is yet to come has its content among these names.
abbrev pub FilesLeadInto : List Name → List Coming → Type 0
FilesLeadInto names levels = (l : Coming) (e : DirectoryEntry) → Contains levels l → Contains l.entries e → IsFileIn names e

-- The text is that of the files of the directory.
pub record AreFilesOf (bodies : Bodies) (order : List Name) (directory : List ℕ) (text : List ℕ) : Type 0 where
  pub rows : List Row
  pub walk : IsPathWalk bodies (directory_name directory) rows
  pub is : text ≡ files_text order rows

-- These rows were taken, and with what remains they are the walk over the directory's paths.
pub record RowsSoFar (bodies : Bodies) (directory : List ℕ) (rows : List Row) (levels : List Coming) : Type 0 where
  pub on : (rest : List Row) → Remain bodies levels rest → IsPathWalk bodies (directory_name directory) (rows ++ rest)
  pub back : (all : List Row) → IsPathWalk bodies (directory_name directory) all → (rest : List Row) × (all ≡ rows ++ rest) × Remain bodies levels rest

-- What is to come leads into the order.
pub record Leads (order : List Name) (levels : List Coming) : Type 0 where
  pub folders : LeadInto order levels
  pub files : FilesLeadInto order levels

-- The text is that of a commit with these parts.
pub record IsCommitOf (bodies : Bodies) (order : List Name) (name : Name) (plain : PlainRevision) (text : List ℕ) : Type 0 where
  pub rows : List Row
  pub walk : IsPathWalk bodies (directory_name plain.directory) rows
  pub is : text ≡ commit_text order name plain rows
