use Rattle.std.proofs.Common.{◌≡◌, ◌<◌, length}
use Rattle.std.specs.List.{AllByRecursion}
use Rattle.swh_fastlex.specs.Path.{IsComponent, components}
use Rattle.swh_dirmade.specs.Paths.{child}
use Rattle.swh_dirmade.specs.Spots.{path_to}
use Rattle.swh_dirload.proofs.lookup.look_up.Given as goal

abbrev pub invariant-components : goal.invariant-components
invariant-components l = record {
  within : l.above < length l.spots;
  cut : l.path ≡ child (path_to l.spots l.above) l.rest;
  good : AllByRecursion IsComponent (components l.rest);
}

abbrev pub decreases-components : goal.decreases-components
decreases-components l = length l.rest
