use Rattle.std.proofs.Common.{◌≡◌, ◌<◌, ◌≤◌, List, length, sym, ap, ◌∙◌, subst, rules}
use Rattle.std.specs.Prelude.{string_bytes}
use Rattle.swh_dirmade.specs.declared.spot.Spot.{Spot}
use Rattle.swh_dirload.specs.Found.{items_of, HavePaths}
use Rattle.swh_dirload.specs.Places.{places_of}
use Rattle.swh_dirmade.specs.Spots.{IsTable, Stand}
use Rattle.swh_dirload.proofs.FoundSpots.{spots_more, spots_all, length_spots, table_of, paths_found, stand_found}
use Rattle.swh_dirload.proofs.spot.spots_of.Goals as goal

pub found-preserved : goal.found-preserved
found-preserved c =
    let item = c.index-found-number.result in
    let lt : c.found.number < length c.args.found.now = search rules in
    let named : c.in_ok-name.name ≡ string_bytes item.name = search rules in
    spots_more c.args.found.now c.found.number item c.found.spots.items _ c.in_ok-name.name lt c.index-found-number.is c.found.invariant named c.in_ok-push.ensures.items

pub returns-clause-table : goal.returns-clause-table
returns-clause-table c =
    let ended : length c.args.found.now ≤ c.found.number = search rules in
    let all = spots_all c.args.found.now c.found.number c.found.spots.items ended c.found.invariant in
    subst IsTable (sym all) (table_of c.args.found.now c.requires.some c.requires.placed c.requires.named)

pub returns-clause-count : goal.returns-clause-count
returns-clause-count c =
    let ended : length c.args.found.now ≤ c.found.number = search rules in
    let all = spots_all c.args.found.now c.found.number c.found.spots.items ended c.found.invariant in
    ap length all ∙ length_spots c.args.found.now

pub returns-clause-stand : goal.returns-clause-stand
returns-clause-stand c = λ standing count.
    let found = c.args.found.now in
    let ended : length found ≤ c.found.number = search rules in
    let all = spots_all found c.found.number c.found.spots.items ended c.found.invariant in
    subst (λ (ss : List Spot). Stand ss standing (places_of (items_of found) standing)) (sym all) (stand_found found standing (table_of found c.requires.some c.requires.placed c.requires.named) count)

pub returns-clause-paths : goal.returns-clause-paths
returns-clause-paths c =
    let found = c.args.found.now in
    let ended : length found ≤ c.found.number = search rules in
    let all = spots_all found c.found.number c.found.spots.items ended c.found.invariant in
    subst (λ (ss : List Spot). HavePaths ss (items_of found)) (sym all) (paths_found found)
