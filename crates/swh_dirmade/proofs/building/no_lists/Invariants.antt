use Rattle.std.proofs.Common.{◌≡◌, ℕ, [], length}
use Rattle.swh_dirmade.specs.Building.{list_views, list_at}
use Rattle.swh_dirmade.proofs.building.no_lists.Given as goal

abbrev pub invariant-lists : goal.invariant-lists
invariant-lists l = record {
  count : length l.lists.items ≡ l._turn;
  none : (k : ℕ) → list_at (list_views l.lists.items) k ≡ [];
}
