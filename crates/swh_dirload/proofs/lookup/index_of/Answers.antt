use Rattle.std.proofs.Common.{◌≡◌, ℕ, ◌<◌, ◌≤◌, ◌^◌, length, subst, arith, rules}
use Rattle.swh_dirload.specs.Index.{IsIndexTo}
use Rattle.swh_dirload.proofs.Indexes.{index_more}
use Rattle.swh_dirload.proofs.lookup.index_of.Goals as goal

pub spots-preserved : goal.spots-preserved
spots-preserved c =
    let spots = c.args.spots.now in
    let k = c.spots.number in
    let inv = c.spots.invariant in
    let some = inv.some in
    let lt : k < length spots = search rules in
    let small : length spots < 2 ^ 64 = search rules in
    record {
      some = omega (arith, some);
      within = omega (arith, lt);
      index = index_more spots k c.index-spots-number.result c.as_slice.result.now c.spots.numbers.entries c.add_number.new.numbers.entries c.requires small some lt inv.index c.index-spots-number.is c.as_slice.ensures c.in_ok-add_number.ensures;
    }

pub returns : goal.returns
returns c =
    let inv = c.spots.invariant in
    let within = inv.within in
    let ended : length c.args.spots.now ≤ c.spots.number = search rules in
    let same : c.spots.number ≡ length c.args.spots.now = omega (arith, within, ended) in
    subst (λ (n : ℕ). IsIndexTo c.args.spots.now n c.spots.numbers.entries) same inv.index
