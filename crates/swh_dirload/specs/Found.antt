-- The table of what a walk found, in which each item names the folder that it stands in by that folder's number. So no
-- path is kept, and those of a deep folder take no more room than their names.
use Rattle.std.specs.Prelude.{◌≡◌, ◌<◌, ◌≤◌, ◌+◌, ◌-◌, ℕ, List, [], ◌∷◌, ◌++◌, length, map, string_bytes, slice_index_or}
use Rattle.std.specs.List.{AllByRecursion}
use Rattle.swh_outside.specs.Folder.{IsFolderEntryName}
use Rattle.swh_outside.specs.declared.folder.Item as listed
use Rattle.swh_outside.specs.declared.folder.What.TheVariants.{Folder}
use Rattle.swh_dirload.specs.declared.found.Found.{Found}
use Rattle.swh_dirmade.specs.Paths.{child}
use Rattle.swh_dirmade.specs.declared.spot.Spot.{Spot}
use Rattle.swh_dirmade.specs.Spots.{path_to}
use Rattle.swh_dirload.specs.Items.{Item}

-- the path of a number, and the empty one past their end
abbrev pub path_at : List (List ℕ) → ℕ → List ℕ
path_at paths number = slice_index_or paths number []

-- the path of what was found, where folders have these paths
abbrev pub path_in : List (List ℕ) → Found → List ℕ
path_in paths found = child (path_at paths found.above) (string_bytes found.name)

-- the same with what stands there
abbrev pub item_under : List (List ℕ) → Found → Item
item_under paths found = (path_in paths found, found.what)

-- the paths of a table behind these
abbrev pub paths_behind : List (List ℕ) → List Found → List (List ℕ)
paths_behind paths [] = paths
paths_behind paths (f ∷ found) = paths_behind (paths ++ path_in paths f ∷ []) found

-- the items of a table behind these paths
abbrev pub items_behind : List (List ℕ) → List Found → List Item
items_behind paths [] = []
items_behind paths (f ∷ found) = item_under paths f ∷ items_behind (paths ++ path_in paths f ∷ []) found

-- the paths of a table
abbrev pub paths_of : List Found → List (List ℕ)
paths_of found = paths_behind [] found

-- the items of a table
abbrev pub items_of : List Found → List Item
items_of found = items_behind [] found

-- The number of its folder is below this one. The first item is the folder itself, which has no name.
pub record IsPlaced (number : ℕ) (found : Found) : Type 0 where
  pub above : found.above ≤ number - 1
  pub first : number ≡ 0 → string_bytes found.name ≡ []

-- Each is placed, from this number on.
abbrev pub ArePlaced : ℕ → List Found → Type 0
ArePlaced number [] = Unit {0}
ArePlaced number (f ∷ found) = IsPlaced number f × ArePlaced (number + 1) found

-- the folder of each is among the first so many
abbrev pub AreBelow : ℕ → List Found → Type 0
AreBelow count = AllByRecursion (λ f. f.above < count)

-- an item of the list of the folder of this number
abbrev pub found_in : ℕ → listed.Item → Found
found_in number item = record { above = number; name = item.name; what = item.what }

-- the item of a number, and the folder itself past their end
abbrev pub item_at : List Item → ℕ → Item
item_at items number = slice_index_or items number ([], Folder)

-- These spots have the paths of the items, one after the other.
abbrev pub HavePaths : List Spot → List Item → Type 0
HavePaths spots items = (number : ℕ) → number < length spots → path_to spots number ≡ (item_at items number).0

-- the items that wait, where folders have these paths
abbrev pub items_under : List (List ℕ) → List Found → List Item
items_under paths waiting = map (item_under paths) waiting

-- From one number to another leads this way, each of whose numbers is in the folder of the one before it.
abbrev pub Leads : List Found → ℕ → List ℕ → ℕ → Type 0
Leads found from [] to = from ≡ to
Leads found from (number ∷ way) to = (0 < number) × (number < length found) × (slice_index_or (map (λ f. f.above) found) number 0 ≡ from) × Leads found number way to

-- Two stand in different folders, or have different names.
abbrev pub AreApart : Found → Found → Type 0
AreApart a b = a.above ≡ b.above → string_bytes a.name ≡ string_bytes b.name → ⊥

-- Each has a good name, and none stands in the folder of another under its name.
abbrev pub AreNamed : List Found → Type 0
AreNamed [] = Unit {0}
AreNamed (f ∷ found) = IsFolderEntryName (string_bytes f.name) × AllByRecursion (AreApart f) found × AreNamed found

-- those behind the first, which is the folder itself
abbrev pub AreNamedBehind : List Found → Type 0
AreNamedBehind [] = Unit {0}
AreNamedBehind (f ∷ found) = AreNamed found
