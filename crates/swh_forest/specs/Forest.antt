-- Folders of folders, what stands at a path, and what putting something at a path makes.
use Rattle.std.specs.Prelude.{ℕ, List, [], ◌∷◌, ◌++◌, map, Option, Some, None, if◌then◌else◌}
use Rattle.swh_entries.specs.declared.entry.Leaf.{Leaf}
use Rattle.swh_entries.specs.Keys.{is_before}
use Rattle.swh_forest.specs.PathMap.{PathMap, same}

-- a folder: its entries in their order, each a file or a folder under its name
pub data Forest : Type 0 where
  Bare : Forest
  File : List ℕ → Leaf → Forest → Forest
  Folder : List ℕ → Forest → Forest → Forest

-- what stands at a path
pub data Stands : Type 0 where
  Nothing : Stands
  IsFile : Leaf → Stands
  IsFolder : Forest → Stands

-- one entry more in front, where something stands
abbrev pub beside : List ℕ → Stands → Forest → Forest
beside n Nothing f = f
beside n (IsFile l) f = File n l f
beside n (IsFolder g) f = Folder n g f

-- what stands under this name
abbrev pub child_at : List ℕ → Forest → Stands
child_at c Bare = Nothing
child_at c (File n l f) = if same n c then IsFile l else child_at c f
child_at c (Folder n g f) = if same n c then IsFolder g else child_at c f

-- without the entry of this name
abbrev pub without : List ℕ → Forest → Forest
without c Bare = Bare
without c (File n l f) = if same n c then without c f else File n l (without c f)
without c (Folder n g f) = if same n c then without c f else Folder n g (without c f)

-- what a name is ordered by, a folder's as if it ended in `/`
abbrev pub key : List ℕ → Stands → List ℕ
key c (IsFolder g) = c ++ 47 ∷ []
key c _ = c ++ []

-- in front of the first with a greater key
abbrev pub inserted : List ℕ → Stands → Forest → Forest
inserted c x Bare = beside c x Bare
inserted c x (File n l f) = if is_before (key c x) (n ++ []) then beside c x (File n l f) else File n l (inserted c x f)
inserted c x (Folder n g f) = if is_before (key c x) (n ++ 47 ∷ []) then beside c x (Folder n g f) else Folder n g (inserted c x f)

-- this in place of what stands under the name
abbrev pub put : List ℕ → Stands → Forest → Forest
put c x f = inserted c x (without c f)

-- the folder of these entries, and nothing where there are none: no folder is empty
abbrev pub folder : Forest → Stands
folder Bare = Nothing
folder f = IsFolder f

-- the entries of what stands there
abbrev pub forest : Stands → Forest
forest (IsFolder f) = f
forest _ = Bare

-- one component further
abbrev pub step : List ℕ → Stands → Stands
step c x = child_at c (forest x)

-- what stands at a path
abbrev pub found : List (List ℕ) → Stands → Stands
found [] x = x
found (c ∷ p) x = found p (step c x)

-- the first in the place of all that stands at the path, and of its fronts
abbrev pub graft : List (List ℕ) → Stands → Stands → Stands
graft [] x y = x
graft (c ∷ p) x y = folder (put c (graft p x (step c y)) (forest y))

-- the leaf that stands there
abbrev pub leaf_of : Stands → Option Leaf
leaf_of (IsFile l) = Some l
leaf_of _ = None

-- the leaf at a path
abbrev pub at : List (List ℕ) → Stands → Option Leaf
at p x = leaf_of (found p x)

-- nothing changes where nothing stands there
abbrev pub deleted_where : Stands → List (List ℕ) → Stands → Stands
deleted_where Nothing p y = y
deleted_where _ p y = graft p Nothing y

-- without what stands at the path
abbrev pub deleted : List (List ℕ) → Stands → Stands
deleted p y = deleted_where (found p y) p y

-- the paths of a folder
abbrev pub flat : Forest → PathMap
flat Bare = []
flat (File n l f) = (n ∷ [], l) ∷ flat f
flat (Folder n g f) = map (λ e. (n ∷ e.0, e.1)) (flat g) ++ flat f

-- the paths of what stands somewhere, from there on
abbrev pub shown : Stands → PathMap
shown Nothing = []
shown (IsFile l) = ([], l) ∷ []
shown (IsFolder g) = flat g
