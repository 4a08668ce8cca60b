-- A directory with all that stands under it, and the walk over its paths: its entries in their order, each folder followed
-- at once by its own entries.
use Rattle.std.specs.Prelude.{◌≡◌, ◌≢◌, ℕ, List, [], ◌∷◌, ◌++◌}
use Rattle.swh_base.specs.declared.name.Name.{Name}
use Rattle.swh_base.specs.Directory.{DirectoryEntry}
use Rattle.swh_model.specs.Archive.{Bodies}
use Rattle.swh_graph.specs.Holding.{HoldsDirectory}
use Rattle.swh_graph.specs.Path.{directory_name}

-- the entries of a directory, each folder with those of its own directory
pub data Tree : Type 0 where
  End : Tree
  Leaf : DirectoryEntry → Tree → Tree
  Folder : DirectoryEntry → Tree → Tree → Tree

-- the entries of the directory itself
abbrev pub entries_in : Tree → List DirectoryEntry
entries_in End = []
entries_in (Leaf e rest) = e ∷ entries_in rest
entries_in (Folder e inner rest) = e ∷ entries_in rest

-- Just the folders have entries under them, and they are those of the directories that are held.
abbrev pub AreHeldUnder : Bodies → Tree → Type 0
AreHeldUnder bodies End = Unit {0}
AreHeldUnder bodies (Leaf e rest) = (e.mode ≢ 40000) × AreHeldUnder bodies rest
AreHeldUnder bodies (Folder e inner rest) =
    (e.mode ≡ 40000) × HoldsDirectory bodies (directory_name e.id) (entries_in inner) × AreHeldUnder bodies inner × AreHeldUnder bodies rest

-- The tree is that of the directory.
pub record IsTreeOf (bodies : Bodies) (name : Name) (tree : Tree) : Type 0 where
  pub top : HoldsDirectory bodies name (entries_in tree)
  pub under : AreHeldUnder bodies tree

-- an entry, and its path
pub record Row : Type 0 where
  pub path : List ℕ
  pub entry : DirectoryEntry

-- an entry behind what leads to its directory
abbrev pub row_at : List ℕ → DirectoryEntry → Row
row_at front e = record { path = front ++ e.name; entry = e }

-- the walk over the paths, behind what leads to the directory
abbrev pub path_walk : List ℕ → Tree → List Row
path_walk front End = []
path_walk front (Leaf e rest) = row_at front e ∷ path_walk front rest
path_walk front (Folder e inner rest) = row_at front e ∷ (path_walk ((front ++ e.name) ++ 47 ∷ []) inner ++ path_walk front rest)

-- The rows are the walk over the paths of the directory.
pub record IsPathWalk (bodies : Bodies) (name : Name) (rows : List Row) : Type 0 where
  pub tree : Tree
  pub is : IsTreeOf bodies name tree
  pub rows_are : rows ≡ path_walk [] tree
