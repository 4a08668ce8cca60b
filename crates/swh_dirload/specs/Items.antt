-- What stands in a folder, and the order in which it is listed.
use Rattle.std.specs.Prelude.{◌≡◌, ◌≢◌, ◌≤◌, ℕ, List, [], ◌∷◌, ◌++◌, length, map, Some}
use Rattle.std.specs.Ordering.{nat_cmp}
use Rattle.std.specs.Cmp.Lexicographic.{slice_cmp}
use Rattle.std.specs.List.Sorted.{IsPermutation, IsSortedByKey}
use Rattle.swh_base.specs.Limits.{path_limit}
use Rattle.swh_outside.specs.Folder.{FolderEntry, Tree, entries_at, AreNames}
use Rattle.swh_outside.specs.declared.folder.What.{What}
use Rattle.swh_outside.specs.declared.folder.What.TheVariants.{File, Folder, Other}
use Rattle.swh_dirmade.specs.Paths.{child}

-- a path in a folder, and what stands there
abbrev pub Item : Type 0
Item = List ℕ × What

-- an entry of the list of the folder at a path
abbrev pub item_in : List ℕ → FolderEntry → Item
item_in dir entry = (child dir entry.name, entry.what)

-- what an entry is compared by after its name: a folder's as if the name ended in `/`
abbrev pub key_end : What → List ℕ
key_end File = []
key_end Folder = 47 ∷ []
key_end Other = []

-- the name, and a `/` after that of a folder
abbrev pub entry_key : FolderEntry → List ℕ
entry_key entry = entry.name ++ key_end entry.what

-- The entries of a folder's list, in the order of a directory (git objects, tree).
pub record IsOrder (entries ordered : List FolderEntry) : Type 0 where
  pub same : IsPermutation entries ordered
  pub ascend : IsSortedByKey entry_key (slice_cmp nat_cmp) ordered

-- They are those of a list of good names, in the order of a directory.
pub record AreInOrder (ordered : List FolderEntry) : Type 0 where
  pub entries : List FolderEntry
  pub order : IsOrder entries ordered
  pub names : AreNames (map (λ entry. entry.name) entries)

-- The folder at a path has these items, in the order of a directory. Their names are good, and none stands twice.
pub record HasItems (tree : Tree) (dir : List ℕ) (items : List Item) : Type 0 where
  pub entries : List FolderEntry
  pub ordered : List FolderEntry
  pub are : entries_at tree dir ≡ Some entries
  pub order : IsOrder entries ordered
  pub names : AreNames (map (λ entry. entry.name) entries)
  pub named : items ≡ map (item_in dir) ordered

-- A folder may have this item: it is a file or a folder, at a path that is not too long.
abbrev pub Fits : List ℕ → What → Type 0
Fits path what = (what ≢ Other) × (length path ≤ path_limit)
