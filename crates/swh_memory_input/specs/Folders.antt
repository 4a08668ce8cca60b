-- What the folders in memory hold, and what is kept of their calls.
use Rattle.std.specs.Prelude.{◌≡◌, ℕ, Bool, List, [], ◌∷◌, Option, Some, None, map, string_bytes}
use Rattle.std.specs.Arc.{arc_slice_items}
use Rattle.std.specs.FinMap as finite
use Rattle.std.specs.Str.{bytes_eq}
use Rattle.swh_outside.specs.Firsts.{first_or}
use Rattle.swh_outside.specs.Folder.{FolderEntry, Standing, FileOf, FolderOf, Tree, nothing, entries_at, AreNames}
use Rattle.swh_outside.specs.Listing.{listed}
use Rattle.swh_outside.specs.declared.folder.Item.{Item}
use Rattle.swh_memory_failures.specs.Tally.{Tally, fresh_tally}
use Rattle.swh_memory_input.specs.declared.folder.MemoryFolder.{MemoryFolder}
use Rattle.swh_memory_input.specs.declared.folder_input.FolderInput.{FolderInput}
use Rattle.swh_memory_input.specs.declared.path_item.PathItem.{PathItem}
use Rattle.swh_memory_input.specs.declared.path_item.Stands.{Stands}
use Rattle.swh_memory_input.specs.declared.path_item.Stands.TheVariants.{File, Folder}

-- it is the place of this path
abbrev pub is_place_at : List ℕ → PathItem → Bool
is_place_at path place = bytes_eq (string_bytes place.path) path

-- the entries of a folder's list
abbrev pub entries_of : List Item → List FolderEntry
entries_of items = map listed items

-- A folder stands there, and the names of its entries are good.
abbrev pub MayList : Tree → List ℕ → Type 0
MayList tree path = (entries : List FolderEntry) × (entries_at tree path ≡ Some entries) × AreNames (map (λ entry. entry.name) entries)

-- what stands there
abbrev pub standing_of : Stands → Standing
standing_of (File bytes piece failing) = FileOf bytes.items
standing_of (Folder items) = FolderOf (entries_of items.items)

-- a tree of these places, of which the first at a path counts
abbrev pub tree_of : List PathItem → Tree
tree_of [] = nothing
tree_of (place ∷ places) = finite.insert (tree_of places) (string_bytes place.path) (standing_of place.stands)

-- how a file is read: the greatest piece, and which calls fail
abbrev pub making_of : Stands → Option (ℕ × Tally)
making_of (File bytes piece failing) = Some (piece, fresh_tally failing.items)
making_of (Folder items) = None

-- the same at a path, where a file stands
abbrev pub making_at : List PathItem → List ℕ → Option (ℕ × Tally)
making_at places path = first_or (is_place_at path) (λ place. making_of place.stands) None places

-- the places that the folder was made with
abbrev pub folder_places : MemoryFolder → List PathItem
folder_places folder = arc_slice_items folder.places

-- what the folder holds
abbrev pub folder_tree : MemoryFolder → Tree
folder_tree folder = tree_of (arc_slice_items folder.places)

-- where the folder was opened
abbrev pub folder_path : MemoryFolder → List ℕ
folder_path folder = string_bytes folder.path

-- what is kept of the folder's calls
abbrev pub folder_tally : MemoryFolder → Tally
folder_tally folder = folder.failures

-- how often the folder has failed
abbrev pub folder_faults : MemoryFolder → ℕ
folder_faults folder = folder.failures.faults

-- it stands at this path
abbrev pub is_folder_for : List ℕ → FolderInput → Bool
is_folder_for path input = bytes_eq (string_bytes input.path) path

-- what it holds, for a folder that is there
abbrev pub input_tree : FolderInput → Option Tree
input_tree input = Some (tree_of (arc_slice_items input.places))

-- what the first folder at a path holds
abbrev pub tree_at : List FolderInput → List ℕ → Option Tree
tree_at inputs path = first_or (is_folder_for path) input_tree None inputs

-- the places of a folder, and which of its calls fail
abbrev pub folder_making : FolderInput → Option (List PathItem × Tally)
folder_making input = Some (arc_slice_items input.places, fresh_tally input.failing.items)

-- the same of the first folder at a path
abbrev pub folder_made_at : List FolderInput → List ℕ → Option (List PathItem × Tally)
folder_made_at inputs path = first_or (is_folder_for path) folder_making None inputs
