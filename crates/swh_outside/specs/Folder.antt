-- What a folder holds, and what the names in its list owe.
use Rattle.std.specs.Prelude.{◌≢◌, ℕ, List, [], ◌∷◌, All, AllPairs, Option, Some, None}
use Rattle.std.specs.Ordering.{nat_cmp}
use Rattle.std.specs.Cmp.Lexicographic.{slice_cmp}
use Rattle.std.specs.FinMap as map
use Rattle.swh_outside.specs.declared.folder.What.{What}

-- an entry of a folder's list: its name, and what stands under it
pub record FolderEntry : Type 0 where
  pub name : List ℕ
  pub what : What

-- What stands at a path: a file with its bytes, or a folder with its entries in the order of its list.
pub data Standing : Type 0 where
  FileOf : List ℕ → Standing
  FolderOf : List FolderEntry → Standing

-- what stands at the paths of a folder, of which there are finitely many; its own path is the empty one
abbrev pub Tree : Type 0
Tree = map.FinMap (slice_cmp nat_cmp) Standing

-- nothing at any path
abbrev pub nothing : Tree
nothing = map.empty

-- the bytes, where a file stands
abbrev pub file_bytes : Option Standing → Option (List ℕ)
file_bytes (Some (FileOf bytes)) = Some bytes
file_bytes (Some (FolderOf entries)) = None
file_bytes None = None

-- the entries, where a folder stands
abbrev pub folder_entries : Option Standing → Option (List FolderEntry)
folder_entries (Some (FileOf bytes)) = None
folder_entries (Some (FolderOf entries)) = Some entries
folder_entries None = None

-- the bytes of the file at a path, if one stands there
abbrev pub bytes_at : Tree → List ℕ → Option (List ℕ)
bytes_at tree path = file_bytes (map.get tree path)

-- the entries of the folder at a path, if one stands there: an empty folder has none
abbrev pub entries_at : Tree → List ℕ → Option (List FolderEntry)
entries_at tree path = folder_entries (map.get tree path)

-- not empty, not `.` or `..`, without `/` and NUL
pub record IsFolderEntryName (name : List ℕ) : Type 0 where
  pub some : name ≢ []
  pub not_here : name ≢ 46 ∷ []
  pub not_above : name ≢ 46 ∷ 46 ∷ []
  pub plain : All (λ b. b ≢ 47) name
  pub no_end : All (λ b. b ≢ 0) name

-- each is a name, and none stands twice
pub record AreNames (names : List (List ℕ)) : Type 0 where
  pub each : All IsFolderEntryName names
  pub once : AllPairs (λ m n. m ≢ n) names
