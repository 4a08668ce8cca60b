-- Which folders a root still needs: those that are marked.
use Rattle.std.specs.Prelude.{◌≡◌, ℕ, ◌-◌, ◌<◌, ◌≤◌, Bool, true, false, List, length, All, slice_index_or}
use Rattle.swh_entries.specs.declared.entry.Child.{Child}
use Rattle.swh_entries.specs.declared.entry.Child.TheVariants.{File as FileChild, Folder as FolderChild}
use Rattle.swh_entries.specs.declared.entry.Entry.{Entry}
use Rattle.swh_entries.specs.Listed.{Listed}
use Rattle.swh_forest.specs.Arena.{IsLower}
use Rattle.swh_forest.specs.Forest.{Forest, Stands, IsFolder, found}

-- whether the folder of this number is marked, where marks begin at the base
abbrev pub is_live : ℕ → List Bool → ℕ → Bool
is_live base live j = slice_index_or live (j - base) false

-- A folder that stands from the base on is marked.
abbrev pub IsMarked : ℕ → List Bool → Child → Type 0
IsMarked base live (FileChild l) = Unit {0}
IsMarked base live (FolderChild j) = base ≤ j → is_live base live j ≡ true

-- Of the first so many entries each folder is marked.
abbrev pub AreMarked : ℕ → List Bool → List Entry → ℕ → Type 0
AreMarked base live es n = (k : ℕ) (d : Entry) → k < n → IsMarked base live (slice_index_or es k d).child

-- Of the first so many entries one has this folder.
pub record HasChild (es : List Entry) (n j : ℕ) : Type 0 where
  pub place : ℕ
  pub other : Entry
  pub within : place < n
  pub child : (slice_index_or es place other).child ≡ FolderChild j

-- The folders that a folder has stand below it.
abbrev pub AreLower : List Listed → Type 0
AreLower nodes = (i : ℕ) (w : Listed) (k : ℕ) (d : Entry) → i < length nodes → k < length (slice_index_or nodes i w).items → IsLower i (slice_index_or (slice_index_or nodes i w).items k d).child

-- From this number on the folders of marked folders are marked.
abbrev pub IsClosed : ℕ → List Bool → List Listed → ℕ → Type 0
IsClosed base live nodes from = (i : ℕ) (w : Listed) → from ≤ i → i < length nodes → is_live base live i ≡ true → AreMarked base live (slice_index_or nodes i w).items (length (slice_index_or nodes i w).items)

-- The folder is one of those of what stands here.
pub record IsPart (x : Stands) (g : Forest) : Type 0 where
  pub path : List (List ℕ)
  pub there : found path x ≡ IsFolder g

-- Each marked folder is a part of what stands here.
abbrev pub AreLiveParts : (ℕ → Forest) → ℕ → List Bool → ℕ → Stands → Type 0
AreLiveParts at base live n x = (i : ℕ) → base ≤ i → i < n → is_live base live i ≡ true → IsPart x (at i)

-- Each list costs as much as it has entries.
abbrev pub AreWhole : List Listed → Type 0
AreWhole lists = All (λ l. l.cost ≡ length l.items) lists
