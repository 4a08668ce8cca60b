use Rattle.std.proofs.Common.{◌≡◌, drop, length}
use Rattle.swh_forest.specs.Forest.{found}
use Rattle.swh_forest.specs.Arena.{stands_of, tree_at, parts_of, IsIn}
use Rattle.swh_forest.proofs.path.find.Given as goal

abbrev pub invariant-loop-name : goal.invariant-loop-name
invariant-loop-name l = record {
  inside : IsIn (length l.nodes) l.here;
  found : found (drop l.name-index (parts_of l.path)) (stands_of (tree_at l.names l.nodes) l.here) ≡ found (parts_of l.path) (stands_of (tree_at l.names l.nodes) l.fn.root);
}
