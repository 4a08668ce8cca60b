-- Folders at work, of which those below a base stay.
use Rattle.std.specs.Prelude.{◌≡◌, ◌⊎◌, ℕ, ◌+◌, ◌*◌, ◌<◌, ◌≤◌, length, take, drop, Option}
use Rattle.swh_entries.specs.Listed.{cost_of}
use Rattle.swh_folders.specs.declared.folders.Folders.{Folders}
use Rattle.swh_forest.specs.Arena.{tree_at}
use Rattle.swh_forest.specs.Forest.{Forest, IsFolder}
use Rattle.swh_folders.specs.Live.{IsPart, AreWhole}
use Rattle.swh_forest.specs.Roots.{map_of_number, IsGood, map_at, root_forest}
use Rattle.swh_forest.specs.PathMap.{PathMap}

-- Each folder is sound, and its own folders are below it.
abbrev pub AreFolders : Folders → Type 0
AreFolders f = IsGood f.names.items f.nodes.items

-- the folder of a number
abbrev pub folder_at : Folders → ℕ → Forest
folder_at f j = tree_at f.names.items f.nodes.items j

-- how many numbers there are
abbrev pub count_of : Folders → ℕ
count_of f = length f.nodes.items

-- the map of a root's number
abbrev pub root_map : Folders → Option ℕ → PathMap
root_map f number = map_of_number (map_at f.names.items f.nodes.items) number

-- what the lists of the folders from this number on cost
abbrev pub cost_from : ℕ → Folders → ℕ
cost_from base f = cost_of (drop base f.nodes.items)

-- The lists of the folders from the base on were counted, up to those of a folder.
pub record IsTallied (base : ℕ) (f : Folders) : Type 0 where
  pub from : base ≤ f.counted
  pub up_to : f.counted ≤ count_of f
  pub sum : cost_of (take base f.nodes.items) + f.entries ≡ cost_of (take f.counted f.nodes.items)

-- They are folders still, and those below the base are what they were.
pub record StaysBelow (base : ℕ) (old new : Folders) : Type 0 where
  pub good : AreFolders new
  pub long : base ≤ count_of new
  pub stay : (j : ℕ) → j < base → folder_at new j ≡ folder_at old j

-- What was counted, and how much may stand, is as before.
pub record KeepsCounts (old new : Folders) : Type 0 where
  pub counted : new.counted ≡ old.counted
  pub entries : new.entries ≡ old.entries
  pub room : new.room ≡ old.room
  pub most : new.most ≡ old.most

-- so many folders more than twice those that are needed may stand, and so many entries more than three times theirs
abbrev pub spare : ℕ
spare = 65536

-- Each folder from the base on is one of the root's.
abbrev pub AreNeeded : ℕ → Folders → Option ℕ → Type 0
AreNeeded base f root = (n : ℕ) → base ≤ n → n < count_of f → IsPart (IsFolder (root_forest (folder_at f) root)) (folder_at f n)

-- No more folders stand than may, and the lists of those from the base on cost no more than they may.
pub record IsWithin (base : ℕ) (f : Folders) : Type 0 where
  pub folders : count_of f ≤ f.most
  pub entries : cost_from base f ≤ f.room

-- How much may stand was set by what stands from the base on, where each list costs as much as it has entries.
pub record IsSetAnew (base : ℕ) (f : Folders) : Type 0 where
  pub folders : f.most + base ≤ 2 * count_of f + spare
  pub entries : f.room ≤ 3 * cost_from base f + spare
  pub whole : AreWhole (drop base f.nodes.items)

-- No more stands than may, or what the root does not need was dropped, and how much may stand was set anew.
abbrev pub IsBounded : ℕ → Folders → Folders → Option ℕ → Type 0
IsBounded base old new root = (IsWithin base new × (new.room ≡ old.room) × (new.most ≡ old.most)) ⊎ (AreNeeded base new root × IsSetAnew base new)
