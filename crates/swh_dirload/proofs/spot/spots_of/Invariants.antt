use Rattle.std.proofs.Common.{◌≡◌, map, take}
use Rattle.swh_dirload.proofs.FoundSpots.{spot_in}
use Rattle.swh_dirload.proofs.spot.spots_of.Given as goal

abbrev pub invariant-found : goal.invariant-found
invariant-found l = l.spots.items ≡ map spot_in (take l.number l.found)
