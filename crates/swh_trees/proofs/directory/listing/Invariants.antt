use Rattle.std.proofs.Common.{◌≡◌, ◌++◌, ℕ, List, drop, length}
use Rattle.std.specs.Prelude.{All}
use Rattle.swh_base.specs.Directory.{DirectoryEntry}
use Rattle.swh_dirfmt.specs.Entries.{entry_views}
use Rattle.swh_forest.specs.Arena.{forest_of}
use Rattle.swh_entries.specs.Keys.{texts}
use Rattle.swh_forest.specs.Forest.{Forest}
use Rattle.swh_trees.specs.Listing.{directory}
use Rattle.swh_trees.specs.Held.{AreIds}
use Rattle.swh_trees.proofs.directory.listing.Given as goal

abbrev pub invariant-loop-e : goal.invariant-loop-e
invariant-loop-e l = record {
  same : (id : List DirectoryEntry → List ℕ) (at : ℕ → Forest) → AreIds id at l.ids → entry_views l.out.items ++ directory id (forest_of (texts l.names) at (drop l.e-index l.entries)) ≡ directory id (forest_of (texts l.names) at l.entries);
  long : All (λ r. length r.id ≡ 20) l.out.items;
}
