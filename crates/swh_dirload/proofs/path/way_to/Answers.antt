use Rattle.std.proofs.Common.{◌<◌, ◌∷◌, length, get_or, arith, rules}
use Rattle.std.proofs.lemmas.List.{get_or-map}
use Rattle.swh_dirload.specs.declared.found.Found.{Found}
use Rattle.swh_dirload.specs.Found.{Leads}
use Rattle.swh_dirload.proofs.Tables.{placed_at}
use Rattle.swh_dirload.proofs.path.way_to.Goals as goal

pub up-smaller : goal.up-smaller
up-smaller c =
    let n = c.up.above in
    let some = c.up-test.true in
    let within = c.up.invariant.0 in
    let lt : n < length c.args.found.now = omega (arith, some, within) in
    let above = (placed_at 0 c.args.found.now n c.index-found-above.result c.requires.placed lt).above in
    omega (arith, above, some)

pub up-preserved : goal.up-preserved
up-preserved c =
    let found = c.args.found.now in
    let n = c.up.above in
    let item = c.index-found-above.result in
    let some = c.up-test.true in
    let within = c.up.invariant.0 in
    let lt : n < length found = omega (arith, some, within) in
    let above = (placed_at 0 found n item c.requires.placed lt).above in
    let more : 0 < n = omega (arith, some) in
    let leads : Leads found (get_or found n item).above (n ∷ c.up.way.items) c.args.number = (more, lt, get_or-map (λ (f : Found). f.above) found n item 0 lt, c.up.invariant.1) in
    (omega (arith, above, within), search rules)
