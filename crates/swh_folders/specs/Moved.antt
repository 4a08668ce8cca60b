-- Folders that were moved.
use Rattle.std.specs.Prelude.{◌≡◌, ℕ, ◌+◌, ◌<◌, ◌≤◌, ◌++◌, Bool, true, List, length, take, slice_index_or}
use Rattle.std.specs.Global.{Vec}
use Rattle.swh_entries.specs.Listed.{Listed}
use Rattle.swh_forest.specs.Arena.{tree_at, IsArena}
use Rattle.swh_forest.specs.Forest.{Forest, Stands}
use Rattle.swh_folders.specs.Live.{is_live, IsPart}

-- Those below the base stay, and of the others the marked ones stand elsewhere below the bound.
pub record AreMoved (at at' : ℕ → Forest) (base bound : ℕ) (live : List Bool) (moved : List ℕ) : Type 0 where
  pub base_in : base ≤ bound
  pub low : (j : ℕ) → j < base → at' j ≡ at j
  pub high : (k : ℕ) → k < length moved → is_live base live (base + k) ≡ true → at' (slice_index_or moved k 0) ≡ at (base + k)
  pub inside : (k : ℕ) → k < length moved → is_live base live (base + k) ≡ true → slice_index_or moved k 0 < bound

-- Fresh folders, after those below the base, stand for the moved ones, and each is a part of what stands here.
pub record IsCopied (names : List (Vec ℕ)) (nodes : List Listed) (base : ℕ) (live : List Bool) (x : Stands) (fresh : List Listed) (moved : List ℕ) : Type 0 where
  pub arena : IsArena names (take base nodes ++ fresh)
  pub moves : AreMoved (tree_at names nodes) (tree_at names (take base nodes ++ fresh)) base (base + length fresh) live moved
  pub parts : (m : ℕ) → base ≤ m → m < base + length fresh → IsPart x (tree_at names (take base nodes ++ fresh) m)
