-- Trees as their callers see them: the folders by their numbers, each as the map of its paths.
use Rattle.std.specs.Prelude.{◌≡◌, ℕ, ◌<◌, List, [], ◌++◌, length, slice_index_or}
use Rattle.swh_trees.specs.declared.tree.Tree.{Tree}
use Rattle.swh_forest.specs.PathMap.{PathMap}
use Rattle.swh_forest.specs.Roots.{IsBelow, map_of_number}

-- the map of each folder, in the order of their numbers, and of how many folders, the first ones, the objects were made; how many
-- folders stand in memory, beside one that is open, and how many entries the lists of those without objects cost; and how many
-- folders and entries may stand; the names of entries that are kept, and the components of the path of the folder that is open
pub record Grove : Type 0 where
  pub folders : List PathMap
  pub made : ℕ
  pub standing : ℕ
  pub entries : ℕ
  pub most : ℕ
  pub room : ℕ
  pub names : List (List ℕ)
  pub path : List (List ℕ)

-- no tree but the empty one
abbrev pub no_trees : Grove
no_trees = record { folders = []; made = 0; standing = 0; entries = 0; most = 65536; room = 65536; names = []; path = [] }

-- all names that are kept, those of a path among them
abbrev pub kept_names : Grove → List (List ℕ)
kept_names g = g.names ++ g.path

-- the map of the folder of this number
abbrev pub folder_map : Grove → ℕ → PathMap
folder_map g n = slice_index_or g.folders n []

-- the tree's map
abbrev pub map_of : Grove → Tree → PathMap
map_of g tree = map_of_number (folder_map g) tree.number

-- The tree stands for a map here.
abbrev pub IsTree : Grove → Tree → Type 0
IsTree g tree = IsBelow (length g.folders) tree.number

-- No object was made, and the folders whose objects were made stand for the same maps.
pub record Keeps (old new : Grove) : Type 0 where
  pub made : new.made ≡ old.made
  pub maps : (n : ℕ) → n < old.made → folder_map new n ≡ folder_map old n

-- The tree stands for this map.
pub record StandsFor (g : Grove) (tree : Tree) (m : PathMap) : Type 0 where
  pub inside : IsTree g tree
  pub map : map_of g tree ≡ m
