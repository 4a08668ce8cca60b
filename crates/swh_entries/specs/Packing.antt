-- A folder's entries as they are kept: slots, and the leaves of the files apart.
use Rattle.std.specs.Prelude.{◌≡◌, ℕ, ◌<◌, List, [], ◌++◌, map, slice_index_or}
use Rattle.std.specs.List.{AllByRecursion}
use Rattle.swh_entries.specs.declared.entry.Child.{Child}
use Rattle.swh_entries.specs.declared.entry.Child.TheVariants.{File as FileChild, Folder as FolderChild}
use Rattle.swh_entries.specs.declared.entry.Entry.{Entry}
use Rattle.swh_entries.specs.declared.entry.Leaf.{Leaf}
use Rattle.swh_entries.specs.declared.packing.Part.{Part}
use Rattle.swh_entries.specs.declared.packing.Part.TheVariants.{File as FilePart, Folder as FolderPart}
use Rattle.swh_entries.specs.declared.packing.Slot.{Slot}

-- of no mode and no id, for a place at which no leaf stands
abbrev pub no_leaf : Leaf
no_leaf = record { mode = 0; id = [] }

-- the child of which this is kept
abbrev pub child_of : List Leaf → Part → Child
child_of leaves (FilePart place) = FileChild (slice_index_or leaves place no_leaf)
child_of leaves (FolderPart number) = FolderChild number

-- the entry of which this is kept
abbrev pub entry_of : List Leaf → Slot → Entry
entry_of leaves s = record { name = s.name; child = child_of leaves s.part }

-- the entries of which these are kept
abbrev pub entries_of : List Leaf → List Slot → List Entry
entries_of leaves slots = map (λ s. entry_of leaves s) slots

-- A file's leaf is among so many.
abbrev pub IsPlaced : ℕ → Part → Type 0
IsPlaced count (FilePart place) = place < count
IsPlaced count (FolderPart number) = Unit {0}

-- Each file's leaf is among so many.
abbrev pub ArePlaced : ℕ → List Slot → Type 0
ArePlaced count slots = AllByRecursion (λ s. IsPlaced count s.part) slots

-- the second leaves go on from the first
pub record Adds (old new : List Leaf) : Type 0 where
  pub more : List Leaf
  pub is : new ≡ old ++ more
