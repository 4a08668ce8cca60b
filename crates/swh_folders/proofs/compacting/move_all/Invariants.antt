use Rattle.std.proofs.Common.{◌≡◌, ◌<◌, ◌≤◌, ℕ, List, length, true}
use Rattle.std.specs.Global.{Vec}
use Rattle.swh_forest.specs.Forest.{Stands}
use Rattle.swh_forest.specs.Arena.{tree_at, IsArena}
use Rattle.swh_folders.specs.Live.{is_live, IsClosed, IsPart, AreWhole}
use Rattle.swh_folders.specs.Moved.{IsCopied}
use Rattle.swh_folders.proofs.compacting.move_all.Given as goal

abbrev pub invariant-loop-wanted : goal.invariant-loop-wanted
invariant-loop-wanted l = record {
  next : length l.moved.items ≡ l.wanted-index;
  room : length l.fresh.items ≤ l.wanted-index;
  whole : AreWhole l.fresh.items;
  copied : (names : List (Vec ℕ)) (x : Stands) → IsArena names l.nodes → IsClosed l.base l.live l.nodes l.base → ((i : ℕ) → l.base ≤ i → i < length l.nodes → is_live l.base l.live i ≡ true → IsPart x (tree_at names l.nodes i)) → IsCopied names l.nodes l.base l.live x l.fresh.items l.moved.items;
}
