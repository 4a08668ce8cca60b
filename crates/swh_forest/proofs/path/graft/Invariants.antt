use Rattle.std.proofs.Common.{◌≡◌, ◌≤◌, ◌++◌, take, drop, length}
use Rattle.swh_entries.specs.Keys.{texts}
use Rattle.swh_forest.specs.Forest.{found, graft}
use Rattle.swh_forest.specs.Sound.{IsSoundHere}
use Rattle.swh_forest.specs.Arena.{stands_of, tree_at, parts_of, IsIn, Grows}
use Rattle.swh_forest.specs.Kept.{AreAmong}
use Rattle.swh_forest.specs.Roots.{IsGood}
use Rattle.swh_forest.proofs.path.graft.Given as goal

abbrev pub invariant-up : goal.invariant-up
invariant-up l = record {
  within : l.left ≤ length l.path;
  good : IsGood l.names.items l.nodes.items;
  sound : IsSoundHere (stands_of (tree_at l.names.items l.nodes.items) l.here);
  grows : Grows l.fn.names.items l.fn.nodes.items l.names.items l.nodes.items;
  kept : AreAmong (texts l.names.items) (texts l.fn.names.items ++ parts_of l.path);
  inside : IsIn (length l.nodes.items) l.here;
  grafted : stands_of (tree_at l.names.items l.nodes.items) l.here ≡ graft (drop l.left (parts_of l.path)) (stands_of (tree_at l.fn.names.items l.fn.nodes.items) l.fn.child) (found (take l.left (parts_of l.path)) (stands_of (tree_at l.fn.names.items l.fn.nodes.items) l.fn.root));
}

abbrev pub decreases-up : goal.decreases-up
decreases-up l = l.left
