-- The directories of the folders of these places (git objects, tree), each of which has an entry for all that stands in it.
use Rattle.std.specs.Prelude.{◌≡◌, ◌≢◌, ◌↔◌, ◌⊎◌, ◌+◌, ℕ, List, [], length, Contains, Option, Some, None}
use Rattle.std.specs.List.{AllPairs, sum_by}
use Rattle.swh_base.specs.declared.kind.Kind.{Kind}
use Rattle.swh_base.specs.declared.kind.Kind.TheVariants.{Directory}
use Rattle.swh_base.specs.declared.entry.Entry.{Entry}
use Rattle.swh_base.specs.Directory.{DirectoryEntry, IsEntryName, AreEntries, directory_text}
use Rattle.swh_model.specs.Meaning.{Made, directory}
use Rattle.swh_dedup.specs.Making.{made}
use Rattle.swh_dirmade.specs.declared.member.Member.{Member}
use Rattle.swh_dirmade.specs.declared.member.Member.TheVariants as stands
use Rattle.swh_dirmade.specs.Paths.{child}
use Rattle.swh_dirmade.specs.Spots.{Places}

module _ (id : Kind → List ℕ → List ℕ) where
  -- the id of the directory of these entries
  abbrev pub directory_id : List DirectoryEntry → List ℕ
  directory_id entries = id Directory (directory_text entries)

  -- the entry of what stands under a name; a folder has the entries `below`
  abbrev pub entry_of : List ℕ → List DirectoryEntry → Member → DirectoryEntry
  entry_of name below (stands.File mode content) = record { mode = mode; name = name; id = content }
  entry_of name below stands.Folder = record { mode = 40000; name = name; id = directory_id below }
  entry_of name below (stands.Project revision) = record { mode = 160000; name = name; id = revision }

  -- the same, if something stands there
  abbrev pub entry_for : List ℕ → List DirectoryEntry → Option Member → Option DirectoryEntry
  entry_for name below (Some place) = Some (entry_of name below place)
  entry_for name below None = None

  -- The entry is that of what stands under its name in the folder at this path.
  pub record IsEntryIn (places : Places) (entries : List ℕ → List DirectoryEntry) (dir : List ℕ) (entry : DirectoryEntry) : Type 0 where
    pub named : IsEntryName entry.name
    pub stands : entry_for entry.name (entries (child dir entry.name)) (places (child dir entry.name)) ≡ Some entry

  -- Each folder's entries are those of all that stands in it, in the order of directories.
  pub record AreDirectories (places : Places) (entries : List ℕ → List DirectoryEntry) : Type 0 where
    pub good : (dir : List ℕ) → places dir ≡ Some stands.Folder → AreEntries (entries dir)
    pub all : (dir : List ℕ) → places dir ≡ Some stands.Folder → (entry : DirectoryEntry) → Contains (entries dir) entry ↔ IsEntryIn places entries dir entry

  -- The object is the directory of a folder.
  pub record IsDirectoryOf (places : Places) (entries : List ℕ → List DirectoryEntry) (m : Made) : Type 0 where
    pub dir : List ℕ
    pub folder : places dir ≡ Some stands.Folder
    pub is : m ≡ directory (directory_text (entries dir))

  -- Beside the objects that were given there are the directories of all folders; that of the folder itself has the id `root`.
  pub record GivesDirectories (places : Places) (old new : List Entry) (root : List ℕ) : Type 0 where
    pub entries : List ℕ → List DirectoryEntry
    pub directories : AreDirectories places entries
    pub named : root ≡ directory_id (entries [])
    pub each : (m : Made) → Contains (made new) m ↔ (Contains (made old) m ⊎ IsDirectoryOf places entries m)

-- a name, and what stands under it
abbrev pub Row : Type 0
Row = List ℕ × Member

-- how many digits the mode has
abbrev pub mode_digits : Member → ℕ
mode_digits (stands.File mode content) = 6
mode_digits stands.Folder = 5
mode_digits (stands.Project revision) = 6

-- how many bytes an entry has: its mode, a space, its name, a NUL, and an id of twenty bytes
abbrev pub entry_size : List ℕ → Member → ℕ
entry_size name place = mode_digits place + length name + 22

abbrev pub row_size : Row → ℕ
row_size row = entry_size row.0 row.1

-- The directory of the folder at this path has so many bytes: these rows are all that stands in it, each name once.
pub record HasSize (places : Places) (dir : List ℕ) (size : ℕ) : Type 0 where
  pub rows : List Row
  pub once : AllPairs (λ a b. a.0 ≢ b.0) rows
  pub all : (row : Row) → Contains rows row ↔ (IsEntryName row.0 × (places (child dir row.0) ≡ Some row.1))
  pub sum : size ≡ sum_by row_size rows
