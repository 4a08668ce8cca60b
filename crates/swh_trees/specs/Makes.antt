-- What the making of a tree's objects gives.
use Rattle.std.specs.Prelude.{◌≡◌, ℕ, ◌+◌, ◌<◌, ◌≤◌, List, [], ◌∷◌, length}
use Rattle.swh_base.specs.declared.entry.Entry.{Entry as Object}
use Rattle.swh_base.specs.declared.kind.Kind.{Kind}
use Rattle.swh_base.specs.Directory.{directory_text}
use Rattle.swh_base.specs.Limits.{body_limit}
use Rattle.swh_trees.specs.declared.fault.TreeFault.{TreeFault}
use Rattle.swh_trees.specs.declared.fault.TreeFault.TheVariants.{Memory, TooLong}
use Rattle.swh_trees.specs.declared.tree.Tree.{Tree}
use Rattle.swh_trees.specs.Directory.{directory_id, directory_of}
use Rattle.swh_trees.specs.Grove.{Grove, folder_map, StandsFor}
use Rattle.swh_trees.specs.Objects.{AreDirectoryObjects}
use Rattle.swh_forest.specs.PathMap.{PathMap, HasFolder, held}

-- The second map is what a folder of the first holds.
pub record IsFolderOf (m folder : PathMap) : Type 0 where
  pub path : List (List ℕ)
  pub there : HasFolder m path
  pub holds : folder ≡ held path m

-- A folder of this map has a number below this.
pub record IsNumbered (trees : Grove) (below : ℕ) (m : PathMap) : Type 0 where
  pub number : ℕ
  pub within : number < below
  pub map : folder_map trees number ≡ m

-- The objects of a map's new directories were made: one for each number from those that were made before on, each that of a
-- folder of the map. Each folder of the map has an object, made now or before, and a folder's own folders have lower numbers.
pub record Makes (id_of : Kind → List ℕ → List ℕ) (old new : Grove) (m : PathMap) (tree : Tree) (id : List ℕ) (objects : List Object) : Type 0 where
  pub stay : (n : ℕ) → n < old.made → folder_map new n ≡ folder_map old n
  pub all : new.made ≡ length new.folders
  pub stands : StandsFor new tree m
  pub named : id ≡ directory_id id_of (directory_of id_of m)
  pub each : old.made + length objects ≡ new.made
  pub made : AreDirectoryObjects id_of (λ n. directory_of id_of (folder_map new n)) old.made objects
  pub parts : (n : ℕ) → old.made ≤ n → n < new.made → IsFolderOf m (folder_map new n)
  pub whole : (path : List (List ℕ)) → HasFolder m path → IsNumbered new new.made (held path m)
  pub children : (n : ℕ) (name : List ℕ) → n < new.made → HasFolder (folder_map new n) (name ∷ []) → IsNumbered new n (held (name ∷ []) (folder_map new n))

-- The body of one of the map's directories is above the limit, unless memory ran out.
abbrev pub ExplainsTree : (Kind → List ℕ → List ℕ) → PathMap → TreeFault → Type 0
ExplainsTree id_of m Memory = Unit {0}
ExplainsTree id_of m (TooLong len) = (path : List (List ℕ)) × HasFolder m path × (len ≡ length (directory_text (directory_of id_of (held path m)))) × (body_limit < len)
