use Rattle.std.proofs.Common.{◌≡◌, ℕ, ◌+◌, ◌<◌, ◌^◌, [], ◌∷◌, ◌++◌, List, length, sym, subst, rules}
use Rattle.swh_dirmade.specs.declared.spot.Spot.{Spot}
use Rattle.swh_dirmade.specs.Spots.{IsTable}
use Rattle.swh_dirload.specs.Index.{key_text, Adds, IsIndex}
use Rattle.swh_dirload.specs.Lines.{spot_of}
use Rattle.swh_dirload.proofs.Standings.{table_push, index_push}
use Rattle.swh_dirload.proofs.taking.add_project.Goals as goal

pub returns-clause-table : goal.returns-clause-table
returns-clause-table c =
    subst IsTable (sym c.in_ok-push.ensures.items) (table_push c.args.spots.now.items (spot_of c.args.above c.args.name) c.requires.table c.requires.within c.requires.named c.requires.none)

pub returns-clause-index : goal.returns-clause-index
returns-clause-index c =
    let spots = c.args.spots.now.items in
    let next = spot_of c.args.above c.args.name in
    let table : IsTable (spots ++ next ∷ []) = table_push spots next c.requires.table c.requires.within c.requires.named c.requires.none in
    let small : length spots + 1 < 2 ^ 64 = search rules in
    let number : c.len-number.result ≡ length spots = search rules in
    let added = subst (λ (t : List ℕ). Adds c.args.numbers.now.entries (key_text c.args.above t) c.len-number.result c.add_number.new.numbers.entries) c.as_slice.ensures c.in_ok-add_number.ensures in
    subst (λ (ss : List Spot). IsIndex ss c.add_number.new.numbers.entries) (sym c.in_ok-push.ensures.items) (index_push spots next c.args.numbers.now.entries c.add_number.new.numbers.entries c.len-number.result table small c.requires.table.some c.requires.index number added)
