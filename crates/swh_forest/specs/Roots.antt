-- Numbered folders, all of them sound, and what the number of a root stands for.
use Rattle.std.specs.Prelude.{ℕ, ◌<◌, List, [], length, Option, Some, None}
use Rattle.std.specs.Global.{Vec}
use Rattle.swh_entries.specs.Listed.{Listed}
use Rattle.swh_forest.specs.Arena.{tree_at, IsArena}
use Rattle.swh_forest.specs.Forest.{Forest, Bare, flat}
use Rattle.swh_forest.specs.PathMap.{PathMap}
use Rattle.swh_forest.specs.Sound.{IsSound}

-- each folder is sound
abbrev pub AreSound : List (Vec ℕ) → List Listed → Type 0
AreSound names nodes = (i : ℕ) → i < length nodes → IsSound (tree_at names nodes i)

-- numbered folders, all of them sound
pub record IsGood (names : List (Vec ℕ)) (nodes : List Listed) : Type 0 where
  pub arena : IsArena names nodes
  pub sound : AreSound names nodes

-- the map of a number
abbrev pub map_at : List (Vec ℕ) → List Listed → ℕ → PathMap
map_at names nodes n = flat (tree_at names nodes n)

-- the folder of a number, and none where there is no number
abbrev pub root_forest : (ℕ → Forest) → Option ℕ → Forest
root_forest at None = Bare
root_forest at (Some n) = at n

-- the number of no folder, or one below this
abbrev pub IsBelow : ℕ → Option ℕ → Type 0
IsBelow n None = Unit {0}
IsBelow n (Some k) = k < n

-- what a number stands for, and none for the empty map
abbrev pub map_of_number : (ℕ → PathMap) → Option ℕ → PathMap
map_of_number map_at None = []
map_of_number map_at (Some n) = map_at n
