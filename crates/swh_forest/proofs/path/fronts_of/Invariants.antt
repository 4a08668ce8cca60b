use Rattle.std.proofs.Common.{◌≡◌, ◌<◌, ℕ, take, length, get_or, None}
use Rattle.std.specs.Prelude.{All}
use Rattle.swh_forest.specs.Forest.{found}
use Rattle.swh_forest.specs.Arena.{stands_of, tree_at, parts_of, IsIn}
use Rattle.swh_forest.proofs.path.fronts_of.Given as goal

abbrev pub invariant-loop-name : goal.invariant-loop-name
invariant-loop-name l = record {
  inside : IsIn (length l.nodes) l.here;
  here : stands_of (tree_at l.names l.nodes) l.here ≡ found (take l.name-index (parts_of l.path)) (stands_of (tree_at l.names l.nodes) l.fn.root);
  as_long : length l.fronts.items ≡ l.name-index;
  each : All (IsIn (length l.nodes)) l.fronts.items;
  founds : (k : ℕ) → k < length l.fronts.items → stands_of (tree_at l.names l.nodes) (get_or l.fronts.items k None) ≡ found (take k (parts_of l.path)) (stands_of (tree_at l.names l.nodes) l.fn.root);
}
