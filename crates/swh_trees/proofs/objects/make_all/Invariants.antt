use Rattle.std.proofs.Common.{◌≡◌, ◌+◌, ◌-◌, ◌≤◌, length}
use Rattle.swh_forest.specs.Arena.{tree_at}
use Rattle.swh_trees.specs.Directory.{directory_id}
use Rattle.swh_trees.specs.Listing.{directory}
use Rattle.swh_trees.specs.Held.{AreIds}
use Rattle.swh_trees.specs.Objects.{AreDirectoryObjects, GoesOn}
use Rattle.swh_trees.proofs.objects.make_all.Given as goal

abbrev pub invariant-each : goal.invariant-each
invariant-each g l = record {
  front : GoesOn l.fn.ids.items l.ids.items;
  within : length l.ids.items ≤ length l.nodes;
  known : AreIds (directory_id g.N.Namer.id_of) (tree_at l.names l.nodes) l.ids.items;
  each : length l.fn.ids.items + length l.objects.items ≡ length l.ids.items;
  objects : AreDirectoryObjects g.N.Namer.id_of (λ n. directory (directory_id g.N.Namer.id_of) (tree_at l.names l.nodes n)) (length l.fn.ids.items) l.objects.items;
}

abbrev pub decreases-each : goal.decreases-each
decreases-each g l = length l.nodes - length l.ids.items
