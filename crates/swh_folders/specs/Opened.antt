-- A folder that is open while it is changed, and the tree that it stands in.
use Rattle.std.specs.Prelude.{◌≡◌, ◌⊎◌, ℕ, List, [], ◌∷◌, ◌++◌, length, Option, Some, None}
use Rattle.std.specs.Borrow.{Bor}
use Rattle.std.specs.Global.{Vec}
use Rattle.std.specs.List.{AllByRecursion}
use Rattle.swh_base.specs.Directory.{IsEntryName}
use Rattle.swh_fastlex.specs.Path.{components}
use Rattle.swh_folders.specs.declared.folders.Folders.{Folders}
use Rattle.swh_folders.specs.declared.opened.Opened.{Opened}
use Rattle.swh_folders.specs.declared.opened.Start.{Start}
use Rattle.swh_folders.specs.declared.opened.Start.TheVariants.{At, In}
use Rattle.swh_entries.specs.Listed.{Listed}
use Rattle.swh_forest.specs.Arena.{forest_of, tree_at, AreGood}
use Rattle.swh_entries.specs.Keys.{texts}
use Rattle.swh_forest.specs.Forest.{Forest, Stands, IsFolder, put, folder, forest, found, graft, flat}
use Rattle.swh_forest.specs.PathMap.{PathMap}
use Rattle.swh_forest.specs.Roots.{IsBelow, root_forest}
use Rattle.swh_forest.specs.Sound.{IsSound}
use Rattle.swh_folders.specs.Working.{count_of, root_map, KeepsCounts, IsBounded}

-- the components of the path of an open folder, which the root's own folder has none of
abbrev pub folder_path : Option (Vec ℕ) → List (List ℕ)
folder_path None = []
folder_path (Some p) = components p.items

-- the same of a path that is lent
abbrev pub lent_path : Option (Bor (List ℕ)) → List (List ℕ)
lent_path None = []
lent_path (Some p) = components p.now

-- the open folder itself
abbrev pub own_forest : List (Vec ℕ) → List Listed → Opened → Forest
own_forest names nodes o = forest_of (texts names) (tree_at names nodes) o.node.items

-- what stands at the root of a tree, with this folder at the path of the open one
abbrev pub root_with : List (Vec ℕ) → List Listed → Opened → Forest → Stands
root_with names nodes o g = graft (folder_path o.path) (folder g) (IsFolder (root_forest (tree_at names nodes) o.root))

-- the root's folder of the tree of an open folder
abbrev pub open_forest : List (Vec ℕ) → List Listed → Opened → Forest
open_forest names nodes o = forest (root_with names nodes o (own_forest names nodes o))

-- Its path is one, its entries are among the names and the folders, and it is sound.
pub record IsOpened (names : List (Vec ℕ)) (nodes : List Listed) (o : Opened) : Type 0 where
  pub root : IsBelow (length nodes) o.root
  pub path : AllByRecursion IsEntryName (folder_path o.path)
  pub entries : AreGood (length names) (length nodes) o.node.items
  pub sound : IsSound (own_forest names nodes o)

-- A tree of this map, with anything under any name of the open folder, is what it makes of the tree with it there.
pub record StandsIn (names : List (Vec ℕ)) (nodes : List Listed) (o : Opened) (m : PathMap) : Type 0 where
  pub whole : Forest
  pub sound : IsSound whole
  pub map : flat whole ≡ m
  pub here : forest (found (folder_path o.path) (IsFolder whole)) ≡ own_forest names nodes o
  pub change : (c : List ℕ) (x : Stands) → root_with names nodes o (put c x (own_forest names nodes o)) ≡ graft (folder_path o.path ++ c ∷ []) x (IsFolder whole)

-- the components of the path of the folder that is open, if one is
abbrev pub open_path : Start → List (List ℕ)
open_path (At root) = []
open_path (In o) = folder_path o.path

-- the root as it was before its folder was opened, or as it is
abbrev pub root_of_start : Start → Option ℕ
root_of_start (At root) = root
root_of_start (In o) = o.root

-- the number by which the tree is known: that of an open folder has the first that no folder has
abbrev pub number_of_start : Folders → Start → Option ℕ
number_of_start f (At root) = root
number_of_start f (In o) = Some (count_of f)

-- the map of the tree at which changes go on
abbrev pub start_map : Folders → Start → PathMap
start_map f (At root) = root_map f root
start_map f (In o) = flat (open_forest f.names.items f.nodes.items o)

-- It stands here.
abbrev pub IsStart : Folders → Start → Type 0
IsStart f (At root) = IsBelow (count_of f) root
IsStart f (In o) = IsOpened f.names.items f.nodes.items o

-- No folder came or went, and as much may stand; or the bound is kept by what the root of this map needs.
abbrev pub StaysBounded : ℕ → Folders → Folders → Option ℕ → PathMap → Type 0
StaysBounded base old new root m = ((new.nodes.items ≡ old.nodes.items) × KeepsCounts old new) ⊎ (IsBounded base old new root × (root_map new root ≡ m))
