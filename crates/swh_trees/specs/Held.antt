-- What trees hold: numbered folders, all of them sound, and the ids of the first of them.
use Rattle.std.specs.Prelude.{◌≡◌, ℕ, zero, suc, ◌==◌, ◌+◌, if◌then◌else◌, ◌<◌, ◌≤◌, List, [], ◌∷◌, ◌++◌, length, slice_index_or, Option, Some, None}
use Rattle.std.specs.Global.{Vec}
use Rattle.swh_base.specs.declared.kind.Kind.{Kind}
use Rattle.swh_base.specs.Directory.{DirectoryEntry}
use Rattle.swh_entries.specs.Listed.{Listed}
use Rattle.swh_folders.specs.declared.folders.Folders.{Folders}
use Rattle.swh_folders.specs.declared.opened.Opened.{Opened}
use Rattle.swh_folders.specs.declared.opened.Start.{Start}
use Rattle.swh_folders.specs.declared.opened.Start.TheVariants.{At, In}
use Rattle.swh_folders.specs.Working.{AreFolders, count_of, cost_from, folder_at, IsTallied}
use Rattle.swh_trees.specs.Directory.{directory_id}
use Rattle.swh_forest.specs.Forest.{Forest, Bare, flat}
use Rattle.swh_trees.specs.Listing.{directory}
use Rattle.swh_forest.specs.PathMap.{PathMap}
use Rattle.swh_entries.specs.Keys.{texts}
use Rattle.swh_folders.specs.Opened.{folder_path, open_forest, IsOpened}
use Rattle.swh_forest.specs.Roots.{map_at}
use Rattle.swh_trees.specs.Grove.{Grove}

-- the ids of the first folders
abbrev pub AreIds : (List DirectoryEntry → List ℕ) → (ℕ → Forest) → List (List ℕ) → Type 0
AreIds id at ids = (j : ℕ) → j < length ids → slice_index_or ids j [] ≡ id (directory id (at j))

-- the number, if there is one, is that of an empty folder whose id is known
abbrev pub IsEmptyFolder : (ℕ → Forest) → ℕ → Option ℕ → Type 0
IsEmptyFolder at n None = Unit {0}
IsEmptyFolder at n (Some k) = (k < n) × (at k ≡ Bare)

-- The folder that is open, if one is, stands here.
abbrev pub MayBeOpened : List (Vec ℕ) → List Listed → Option Opened → Type 0
MayBeOpened names nodes None = Unit {0}
MayBeOpened names nodes (Some o) = IsOpened names nodes o

pub record IsHeld (id_of : Kind → List ℕ → List ℕ) (f : Folders) (opened : Option Opened) (ids : List (List ℕ)) (empty : Option ℕ) : Type 0 where
  pub good : AreFolders f
  pub opens : MayBeOpened f.names.items f.nodes.items opened
  pub within : length ids ≤ count_of f
  pub known : AreIds (directory_id id_of) (folder_at f) ids
  pub no_files : IsEmptyFolder (folder_at f) (length ids) empty
  pub tallied : IsTallied (length ids) f

-- the values of the first numbers
abbrev pub first_values : (ℕ → PathMap) → ℕ → List PathMap
first_values f zero = []
first_values f (suc n) = first_values f n ++ f n ∷ []

-- the maps of the folders that have numbers, and after them that of the tree whose folder is open
abbrev pub maps_with : List (Vec ℕ) → List Listed → Option Opened → List PathMap
maps_with names nodes None = first_values (map_at names nodes) (length nodes)
maps_with names nodes (Some o) = first_values (map_at names nodes) (length nodes) ++ flat (open_forest names nodes o) ∷ []

-- the components of the path of the folder that is open, if one is
abbrev pub opened_path : Option Opened → List (List ℕ)
opened_path None = []
opened_path (Some o) = folder_path o.path

-- what callers see
abbrev pub grove : Folders → Option Opened → List (List ℕ) → Grove
grove f opened ids = record {
  folders = maps_with f.names.items f.nodes.items opened;
  made = length ids;
  standing = count_of f;
  entries = cost_from (length ids) f;
  most = f.most;
  room = f.room;
  names = texts f.names.items;
  path = opened_path opened;
}

-- how many trees have numbers, where so many folders have
abbrev pub count_with : Option Opened → ℕ → ℕ
count_with None n = n
count_with (Some o) n = n + 1

-- where changes of the tree of a number go on: in its open folder, if it has one
abbrev pub start_with : Option Opened → Option ℕ → ℕ → Start
start_with None number count = At number
start_with (Some o) None count = At None
start_with (Some o) (Some n) count = if n == count then In o else At (Some n)

-- the folder of a tree that is open
abbrev pub opened_of : Start → Option Opened
opened_of (At root) = None
opened_of (In o) = Some o

-- the number of a tree after its objects were made: an empty one has none
abbrev pub kept_number : Option ℕ → ℕ → Option ℕ
kept_number None number = None
kept_number (Some n) number = Some number

-- the number of the empty folder after the objects of a tree were made
abbrev pub kept_empty : Option ℕ → Option ℕ → ℕ → Option ℕ
kept_empty None empty number = Some number
kept_empty (Some n) empty number = empty
