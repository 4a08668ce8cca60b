use Rattle.std.proofs.Common.{◌≡◌, ◌+◌, length}
use Rattle.swh_dirmade.specs.Building.{list_views, Builds}
use Rattle.swh_dirmade.proofs.building.make_directories.Given as goal

abbrev pub invariant-up : goal.invariant-up
invariant-up g l = record {
  count : length l.lists.items + l._turn ≡ length l.spots + 1;
  built : Builds g.N.Namer.id_of l.spots l.standing (length l.lists.items) (list_views l.lists.items) l.fn.given l.given;
}
