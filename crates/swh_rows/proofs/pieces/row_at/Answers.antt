use Rattle.std.proofs.Common.{ℕ, subst, sym, arith}
use Rattle.std.specs.Option.{option_copied}
use Rattle.std.specs.List.Sorted.{IsNonDecreasingBy}
use Rattle.swh_rows.proofs.PieceLemmas.{ends-ascend, start-low, row-found}
use Rattle.swh_rows.proofs.pieces.row_at.Goals as goal

pub first_behind-number-requires : goal.first_behind-number-requires
first_behind-number-requires g c = subst (IsNonDecreasingBy (λ (end : ℕ). end)) (sym c.requires) (ends-ascend 0 c.args.lists.now)

pub overflow_sub-behind : goal.overflow_sub-behind
overflow_sub-behind g c =
    let low = start-low c.args.ends.now c.first_behind-number.result c.args.place c.first_behind-number.ensures.before in
    let is = c.start_of-start.ensures in
    omega (arith, low, is)

pub returns : goal.returns
returns g c =
    row-found c.args.lists.now c.args.ends.now c.first_behind-number.result c.args.place c.start_of-start.result c.list_at.result.now (option_copied c.item_at.result)
    c.item_at.ensures c.list_at.ensures c.start_of-start.ensures c.requires c.first_behind-number.ensures.before c.first_behind-number.ensures.behind
