use Rattle.std.proofs.Common.{◌≡◌, ◌<◌, ◌≤◌, ◌+◌, ◌-◌, ℕ, suc, List, [], length, get_or, set, ap, ◌∙◌, subst, arith, rules}
use Rattle.std.proofs.lemmas.List.{length-set}
use Rattle.swh_dirmade.specs.declared.member.Member.TheVariants as stands
use Rattle.swh_dirmade.specs.Directories.{entry_size}
use Rattle.swh_dirmade.specs.Sizes.{size_at, AreSizes}
use Rattle.swh_dirmade.specs.Spots.{above_at, name_at, place_at}
use Rattle.swh_dirmade.proofs.Lengths.{get_any, more_sizes}
use Rattle.swh_dirmade.proofs.Numbers.{spot_at}
use Rattle.swh_dirmade.proofs.sizes.sizes_of.Goals as goal

pub add_size-requires : goal.add_size-requires
add_size-requires c =
    let n = length c.args.spots.now in
    let low : 1 ≤ c.up.turn = search rules in
    let high : c.up.turn < n = search rules in
    let m = n - c.up.turn in
    let down = (spot_at c.args.spots.now m c.index-spots-number.result c.requires.table (omega (arith, low, high)) (omega (arith, low, high)) c.index-spots-number.is).down in
    let count = c.up.invariant.count in
    omega (arith, down, count, low, high)

pub up-preserved : goal.up-preserved
up-preserved c =
    let n = length c.args.spots.now in
    let low : 1 ≤ c.up.turn = search rules in
    let high : c.up.turn < n = search rules in
    let m = n - c.up.turn in
    let lt : m < n = omega (arith, low, high) in
    let some : 0 < m = omega (arith, low, high) in
    let spots = c.args.spots.now in
    let places = c.args.places.now in
    let at = spot_at spots m c.index-spots-number.result c.requires.table some lt c.index-spots-number.is in
    let sizes = c.up.sizes.items in
    let now = c.add_size.new.sizes.items in
    let before : n + 1 - c.up.turn ≡ suc m = omega (arith, low, high) in
    let after : m ≡ n + 1 - (c.up.turn + 1) = omega (arith, low, high) in
    let count = c.requires.count in
    let place : get_or places m (stands.File 0 []) ≡ place_at places m = get_any places m (stands.File 0 []) stands.Folder (omega (arith, lt, count)) in
    let size : c.entry_size-size.result ≡ size_at spots places m = c.entry_size-size.ensures ∙ ap (λ (name : List ℕ). entry_size name (get_or places m (stands.File 0 []))) (c.as_slice.ensures ∙ at.name) ∙ ap (entry_size (name_at spots m)) place in
    let put = c.in_ok-add_size.ensures in
    let is : now ≡ set sizes (above_at spots m) (get_or sizes (above_at spots m) 0 + size_at spots places m) = put ∙ ap (λ (k : ℕ). set sizes c.index-spots-number.result.above (get_or sizes c.index-spots-number.result.above 0 + k)) size ∙ ap (λ (a : ℕ). set sizes a (get_or sizes a 0 + size_at spots places m)) at.above in
    let inv : AreSizes spots places (suc m) sizes = subst (λ (k : ℕ). AreSizes spots places k sizes) before c.up.invariant in
    subst (λ (k : ℕ). AreSizes spots places k now) after (more_sizes spots places m sizes now c.requires.table some lt inv (ap length is ∙ length-set sizes (above_at spots m) (get_or sizes (above_at spots m) 0 + size_at spots places m)) is)
