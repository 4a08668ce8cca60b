-- The path walk of a folder: the folder itself, and then the items of each folder in the order of a directory, each folder
-- followed at once by its own items.
use Rattle.std.specs.Prelude.{◌≡◌, ◌<◌, ◌≤◌, ℕ, List, [], ◌∷◌, ◌++◌, length}
use Rattle.std.specs.List.{AllByRecursion}
use Rattle.swh_base.specs.Limits.{path_limit}
use Rattle.swh_base.specs.declared.visit.Which.TheVariants.{Path}
use Rattle.swh_outside.specs.Folder.{Tree}
use Rattle.swh_outside.specs.declared.folder.What.{What}
use Rattle.swh_outside.specs.declared.folder.What.TheVariants.{File, Folder, Other}
use Rattle.swh_dirload.specs.declared.fault.DirFault.{DirFault}
use Rattle.swh_dirload.specs.declared.fault.DirFault.TheVariants.{OtherKind, BadModes, Limit, ReadFault, Memory}
use Rattle.swh_dirload.specs.Items.{Item, HasItems, Fits}

-- the folder itself
abbrev pub root : Item
root = ([], Folder)

-- What waits once an item was visited, before which these waited: a folder's own items come first.
abbrev pub Visits : Tree → List ℕ → What → List Item → List Item → Type 0
Visits tree path File rest now = now ≡ rest
Visits tree path Folder rest now = (items : List Item) × HasItems tree path items × (now ≡ items ++ rest)
Visits tree path Other rest now = ⊥

-- The walk takes these items, from those that wait at first to those that wait now.
abbrev pub Takes : Tree → List Item → List Item → List Item → Type 0
Takes tree waiting [] now = waiting ≡ now
Takes tree waiting (item ∷ items) now = (rest : List Item) × (next : List Item) × (waiting ≡ item ∷ rest) × Visits tree item.0 item.1 rest next × Takes tree next items now

-- each may stand in a folder
abbrev pub AllFit : List Item → Type 0
AllFit = AllByRecursion (λ item. Fits item.0 item.1)

-- These are all items of the walk of a folder, and each may stand in one.
pub record IsWalk (tree : Tree) (items : List Item) : Type 0 where
  pub all : Takes tree (root ∷ []) items []
  pub fit : AllFit items

-- The walk comes to this item, and each one before it may stand in a folder.
pub record ComesTo (tree : Tree) (path : List ℕ) (what : What) : Type 0 where
  pub before : List Item
  pub rest : List Item
  pub takes : Takes tree (root ∷ []) before ((path, what) ∷ rest)
  pub fit : AllFit before

-- Why no folder may have an item. Of a folder that fails and of want of memory nothing is said.
abbrev pub ExplainsItem : List ℕ → What → DirFault → Type 0
ExplainsItem path what (OtherKind other) = (what ≡ Other) × (other ≡ path) × (length path ≤ path_limit)
ExplainsItem path what (BadModes line) = ⊥
ExplainsItem path what (Limit which number) = (which ≡ Path) × (number ≡ length path) × (path_limit < number)
ExplainsItem path what ReadFault = Unit {0}
ExplainsItem path what Memory = Unit {0}

-- Why a folder has no walk of items that may stand in one: the first that may not. Of a folder that fails and of want of
-- memory nothing is said.
abbrev pub ExplainsWalk : Tree → DirFault → Type 0
ExplainsWalk tree (OtherKind path) = ComesTo tree path Other × (length path ≤ path_limit)
ExplainsWalk tree (BadModes line) = ⊥
ExplainsWalk tree (Limit which number) = (path : List ℕ) × (what : What) × ComesTo tree path what × ExplainsItem path what (Limit which number)
ExplainsWalk tree ReadFault = Unit {0}
ExplainsWalk tree Memory = Unit {0}
