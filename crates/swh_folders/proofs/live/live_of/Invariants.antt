use Rattle.std.proofs.Common.{◌≡◌, ◌+◌, ◌≤◌, ℕ, List, length, true}
use Rattle.std.specs.Global.{Vec}
use Rattle.swh_forest.specs.Arena.{tree_at, IsArena}
use Rattle.swh_forest.specs.Forest.{IsFolder}
use Rattle.swh_forest.specs.Roots.{AreSound}
use Rattle.swh_folders.specs.Live.{is_live, IsClosed, AreLiveParts}
use Rattle.swh_folders.proofs.live.live_of.Given as goal

abbrev pub invariant-down : goal.invariant-down
invariant-down l = record {
  within : l.base ≤ l.left;
  top : l.left ≤ length l.nodes;
  as_long : l.base + length l.live.items ≡ length l.nodes;
  root : is_live l.base l.live.items l.root ≡ true;
  closed : IsClosed l.base l.live.items l.nodes l.left;
  parts : (names : List (Vec ℕ)) → IsArena names l.nodes → AreSound names l.nodes → AreLiveParts (tree_at names l.nodes) l.base l.live.items (length l.nodes) (IsFolder (tree_at names l.nodes l.root));
}

abbrev pub decreases-down : goal.decreases-down
decreases-down l = l.left
