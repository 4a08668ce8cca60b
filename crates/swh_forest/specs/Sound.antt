-- Folders in order, with distinct names, and none of them empty but the root.
use Rattle.std.specs.Prelude.{◌≡◌, ◌≢◌, ℕ, true, List, [], ◌∷◌, ◌++◌, length}
use Rattle.swh_base.specs.Directory.{IsEntryName}
use Rattle.swh_entries.specs.declared.entry.Leaf.{Leaf}
use Rattle.swh_forest.specs.Leaf.{IsLeafMode}
use Rattle.swh_forest.specs.Forest.{Forest, Bare, File, Folder, Stands, Nothing, IsFile, IsFolder, child_at}
use Rattle.swh_entries.specs.Keys.{is_before}

-- The mode is one of a leaf, and the id has twenty bytes.
pub record IsLeaf (l : Leaf) : Type 0 where
  pub mode : IsLeafMode l.mode
  pub id : length l.id ≡ 20

-- what comes first comes after this key
abbrev pub Follows : List ℕ → Forest → Type 0
Follows k Bare = Unit {0}
Follows k (File n l f) = is_before k (n ++ []) ≡ true
Follows k (Folder n g f) = is_before k (n ++ 47 ∷ []) ≡ true

-- Names are names of entries, each stands once and in its order, and no folder is empty.
abbrev pub IsSound : Forest → Type 0
IsSound Bare = Unit {0}
IsSound (File n l f) = IsEntryName n × IsLeaf l × (child_at n f ≡ Nothing) × Follows (n ++ []) f × IsSound f
IsSound (Folder n g f) = IsEntryName n × (g ≢ Bare) × IsSound g × (child_at n f ≡ Nothing) × Follows (n ++ 47 ∷ []) f × IsSound f

-- What stands there is so.
abbrev pub IsSoundHere : Stands → Type 0
IsSoundHere Nothing = Unit {0}
IsSoundHere (IsFile l) = IsLeaf l
IsSoundHere (IsFolder g) = (g ≢ Bare) × IsSound g
