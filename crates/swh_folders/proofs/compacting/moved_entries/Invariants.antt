use Rattle.std.proofs.Common.{◌≡◌, ℕ, Bool, List, length, take}
use Rattle.swh_forest.specs.Forest.{Forest}
use Rattle.swh_forest.specs.Arena.{forest_of, AreGood}
use Rattle.swh_folders.specs.Live.{AreMarked}
use Rattle.swh_folders.specs.Moved.{AreMoved}
use Rattle.swh_folders.proofs.compacting.moved_entries.Given as goal

abbrev pub invariant-loop-e : goal.invariant-loop-e
invariant-loop-e l = record {
  good : (at at' : ℕ → Forest) (bound n k : ℕ) (live : List Bool) → AreMoved at at' l.base bound live l.moved → AreMarked l.base live l.entries (length l.entries) → AreGood n k l.entries → AreGood n bound l.out.items;
  same : (names : List (List ℕ)) (at at' : ℕ → Forest) (bound : ℕ) (live : List Bool) → AreMoved at at' l.base bound live l.moved → AreMarked l.base live l.entries (length l.entries) → forest_of names at' l.out.items ≡ forest_of names at (take l.e-index l.entries);
}
