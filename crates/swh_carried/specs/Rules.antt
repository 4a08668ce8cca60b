-- The rules that both forms have: names that are no file's, and paths that are too long.
use Rattle.std.specs.Prelude.{◌≡◌, ◌⊎◌, ℕ, ◌+◌, ◌<◌, Some, List, [], ◌∷◌, length, Contains}
use Rattle.swh_base.specs.declared.kind.Kind.TheVariants.{Directory}
use Rattle.swh_base.specs.declared.name.Name.{Name}
use Rattle.swh_base.specs.Directory.{DirectoryEntry, IsDirectory}
use Rattle.swh_base.specs.Limits.{path_limit}
use Rattle.swh_model.specs.Archive.{Bodies, body_of}

-- A directory is held under the name, and this is one of its entries.
pub record HasDirectoryEntry (bodies : Bodies) (name : Name) (entry : DirectoryEntry) : Type 0 where
  pub kind : name.kind ≡ Directory
  pub body : List ℕ
  pub held : body_of bodies name ≡ Some body
  pub entries : List DirectoryEntry
  pub is : IsDirectory body entries
  pub there : Contains entries entry

-- `.` and `..`
abbrev pub IsDots : List ℕ → Type 0
IsDots name = (name ≡ 46 ∷ []) ⊎ (name ≡ 46 ∷ 46 ∷ [])

-- The directory has an entry `.` or `..`.
pub record HasDots (bodies : Bodies) (name : Name) : Type 0 where
  pub entry : DirectoryEntry
  pub is_entry : HasDirectoryEntry bodies name entry
  pub is : IsDots entry.name

-- the name of the directory with this id
abbrev pub folder_name : List ℕ → Name
folder_name id = record { kind = Directory; id = id }

-- Entries that are folders, the last of them first, lead from one directory to another, each an entry of the directory
-- that those before lead to.
abbrev pub LeadsOver : Bodies → Name → List DirectoryEntry → Name → Type 0
LeadsOver bodies from [] to = from ≡ to
LeadsOver bodies from (e ∷ es) to =
    (place : Name) × LeadsOver bodies from es place × HasDirectoryEntry bodies place e × (e.mode ≡ 40000) × (to ≡ folder_name e.id)

-- the bytes of the path that these entries make, with a slash behind each
abbrev pub way_length : List DirectoryEntry → ℕ
way_length [] = 0
way_length (e ∷ es) = way_length es + (length e.name + 1)

-- A path from one of the directories where paths begin, over an entry of this one, is longer than a path may be.
pub record HasLongPath (bodies : Bodies) (Begins : Name → Type 0) (name : Name) : Type 0 where
  pub start : Name
  pub begins : Begins start
  pub way : List DirectoryEntry
  pub leads : LeadsOver bodies start way name
  pub entry : DirectoryEntry
  pub is_entry : HasDirectoryEntry bodies name entry
  pub long : path_limit < way_length way + length entry.name
