-- How much stands in memory beside the folders whose objects were made, after changes of a tree.
use Rattle.std.specs.Prelude.{◌≡◌, ◌⊎◌, ℕ, zero, suc, ◌+◌, ◌-◌, ◌*◌, ◌<◌, ◌≤◌, [], length}
use Rattle.swh_forest.specs.PathMap.{PathMap}
use Rattle.swh_trees.specs.Directory.{directory_within, depth_of}
use Rattle.swh_trees.specs.Grove.{Grove, folder_map}
use Rattle.swh_trees.specs.Makes.{IsFolderOf}

-- how many entries the directory of a map has, whatever the ids of its folders are
abbrev pub entry_count : PathMap → ℕ
entry_count m = length (directory_within (λ es. []) (depth_of m) m)

-- how many entries the directories of so many maps have together, from the map of this number on
abbrev pub entries_from : (ℕ → PathMap) → ℕ → ℕ → ℕ
entries_from map_at first zero = 0
entries_from map_at first (suc n) = entry_count (map_at first) + entries_from map_at (suc first) n

-- As many folders stand as before, their lists cost as much, and as much may stand.
pub record IsStill (old new : Grove) : Type 0 where
  pub standing : new.standing ≡ old.standing
  pub entries : new.entries ≡ old.entries
  pub most : new.most ≡ old.most
  pub room : new.room ≡ old.room

-- No more folders stand than may, their lists cost no more than they may, and as much may stand as before.
pub record IsWithin (old new : Grove) : Type 0 where
  pub folders : new.standing ≤ new.most
  pub entries : new.entries ≤ new.room
  pub most : new.most ≡ old.most
  pub room : new.room ≡ old.room

-- Of the folders without objects those of this map alone stand, and no entries but theirs: from now on twice as many folders
-- may stand, and 65,536 more, and three times as many entries, and 65,536 more.
pub record IsCleared (g : Grove) (m : PathMap) : Type 0 where
  pub needed : (n : ℕ) → g.made ≤ n → n < g.standing → IsFolderOf m (folder_map g n)
  pub entries : g.entries ≡ entries_from (folder_map g) g.made (g.standing - g.made)
  pub most : g.most + g.made ≤ 2 * g.standing + 65536
  pub room : g.room ≤ 3 * g.entries + 65536

-- No more stands than may, unless nothing came, or all was dropped that this map does not need.
abbrev pub IsBounded : Grove → Grove → PathMap → Type 0
IsBounded old new m = IsStill old new ⊎ IsWithin old new ⊎ IsCleared new m

-- Each folder that stands has its object, none is open, and 65,536 more folders, and entries, may stand.
pub record IsEmptied (g : Grove) : Type 0 where
  pub standing : g.standing ≡ g.made
  pub closed : length g.folders ≡ g.made
  pub entries : g.entries ≡ 0
  pub most : g.most ≤ g.made + 65536
  pub room : g.room ≤ 65536
