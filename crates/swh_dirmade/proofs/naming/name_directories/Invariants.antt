use Rattle.std.proofs.Common.{◌≡◌, ◌+◌, List, length}
use Rattle.std.specs.List.{AllByRecursion}
use Rattle.swh_base.specs.declared.entry.Entry.{Entry}
use Rattle.swh_dedup.specs.Making.{made, names_of_made}
use Rattle.swh_dirmade.specs.Building.{list_views, Builds}
use Rattle.swh_dirmade.specs.Making.{IsHeld}
use Rattle.swh_dirmade.proofs.naming.name_directories.Given as goal

abbrev pub invariant-up : goal.invariant-up
invariant-up g l = record {
  count : length l.lists.items + l._turn ≡ length l.spots + 1;
  built : (old : List Entry) → AllByRecursion (IsHeld (names_of_made g.N.Namer.id_of (made old))) l.standing
      → (now : List Entry) × Builds g.N.Namer.id_of l.spots l.standing (length l.lists.items) (list_views l.lists.items) old now;
}
