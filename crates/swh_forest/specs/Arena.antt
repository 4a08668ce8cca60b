-- Numbered folders as forests.
use Rattle.std.specs.Prelude.{◌≡◌, ℕ, ◌==◌, ◌<◌, ◌≤◌, Bool, List, [], ◌∷◌, length, map, reverse, Option, Some, None, if◌then◌else◌, slice_index_or, All, take}
use Rattle.std.specs.Borrow.{Bor}
use Rattle.std.specs.List.{AllByRecursion}
use Rattle.std.specs.Global.{Vec}
use Rattle.swh_entries.specs.declared.entry.Child.{Child}
use Rattle.swh_entries.specs.declared.entry.Entry.{Entry}
use Rattle.swh_entries.specs.Listed.{Listed}
use Rattle.swh_entries.specs.declared.entry.Child.TheVariants.{File as FileChild, Folder as FolderChild}
use Rattle.swh_entries.specs.Keys.{name_at, texts, entry_key, is_before}
use Rattle.swh_entries.specs.Named.{Extends}
use Rattle.swh_forest.specs.Forest.{Forest, Bare, Stands, Nothing, IsFile, IsFolder, beside, found}
use Rattle.swh_forest.specs.PathMap.{same}

-- what a child is, where folders are these
abbrev pub stands : (ℕ → Forest) → Child → Stands
stands at (FileChild l) = IsFile l
stands at (FolderChild j) = IsFolder (at j)

-- what stands where a child may be
abbrev pub stands_of : (ℕ → Forest) → Option Child → Stands
stands_of at None = Nothing
stands_of at (Some c) = stands at c

-- the folder of these entries, where folders are these
abbrev pub forest_of : List (List ℕ) → (ℕ → Forest) → List Entry → Forest
forest_of names at [] = Bare
forest_of names at (e ∷ es) = beside (name_at names e.name) (stands at e.child) (forest_of names at es)

-- the folder of a number among these, the newest first: its own folders are among the older ones
abbrev pub among : List (List ℕ) → List (List Entry) → ℕ → Forest
among names [] i = Bare
among names (es ∷ older) i = if i == length older then forest_of names (among names older) es else among names older i

-- a file, or a folder of a lower number
abbrev pub IsLower : ℕ → Child → Type 0
IsLower k (FileChild l) = Unit {0}
IsLower k (FolderChild j) = j < k

-- The name has a number below the first, and a folder one below the second.
pub record IsGood (n k : ℕ) (e : Entry) : Type 0 where
  pub name : e.name < n
  pub child : IsLower k e.child

-- of each entry the name is among the first n, and a folder among the first k
abbrev pub AreGood : ℕ → ℕ → List Entry → Type 0
AreGood n k es = AllByRecursion (λ e. IsGood n k e) es

-- Each folder's own folders are older, the newest folder first.
abbrev pub AllGood : ℕ → List (List Entry) → Type 0
AllGood n [] = Unit {0}
AllGood n (es ∷ older) = AreGood n (length older) es × AllGood n older

-- whether the entry has this name
abbrev pub has_name : List (List ℕ) → List ℕ → Entry → Bool
has_name names c e = same (name_at names e.name) c

-- without the entry of this name
abbrev pub entries_without : List (List ℕ) → List ℕ → List Entry → List Entry
entries_without names c [] = []
entries_without names c (e ∷ es) = if has_name names c e then entries_without names c es else e ∷ entries_without names c es

-- in front of the first with a greater key
abbrev pub entries_with : List (List ℕ) → Entry → List Entry → List Entry
entries_with names e [] = e ∷ []
entries_with names e (f ∷ es) = if is_before (entry_key names e) (entry_key names f) then e ∷ f ∷ es else f ∷ entries_with names e es

-- the newest first
abbrev pub layers : List Listed → List (List Entry)
layers nodes = reverse (map (λ v. v.items) nodes)

-- the folder of a number
unfoldable pub tree_at : List (Vec ℕ) → List Listed → ℕ → Forest
tree_at names nodes i = among (texts names) (layers nodes) i

-- each folder's own folders have lower numbers
unfoldable pub IsArena : List (Vec ℕ) → List Listed → Type 0
IsArena names nodes = AllGood (length names) (layers nodes)

-- A folder that stands there has a number below this one.
abbrev pub IsIn : ℕ → Option Child → Type 0
IsIn n None = Unit {0}
IsIn n (Some c) = IsLower n c

-- numbers mean what they meant, and have the lists that they had
pub record Grows (names : List (Vec ℕ)) (nodes : List Listed) (names' : List (Vec ℕ)) (nodes' : List Listed) : Type 0 where
  pub names_more : Extends names names'
  pub longer : length nodes ≤ length nodes'
  pub trees : (i : ℕ) → i < length nodes → tree_at names' nodes' i ≡ tree_at names nodes i
  pub lists : take (length nodes) nodes' ≡ nodes

-- the components that are borrowed
abbrev pub parts_of : List (Bor (List ℕ)) → List (List ℕ)
parts_of path = map (λ c. c.now) path

-- at each number, what stands at that many components of the path
pub record AreFronts (at : ℕ → Forest) (n : ℕ) (root : Option Child) (path : List (List ℕ)) (fronts : List (Option Child)) : Type 0 where
  pub as_long : length fronts ≡ length path
  pub inside : All (IsIn n) fronts
  pub found_there : (k : ℕ) → k < length fronts → stands_of at (slice_index_or fronts k None) ≡ found (take k path) (stands_of at root)
