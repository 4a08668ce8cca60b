use Rattle.std.proofs.Common.{◌≡◌, take, sym, ◌∙◌}
use Rattle.std.specs.Ordering.{nat_cmp}
use Rattle.std.specs.Cmp.Lexicographic.{slice_cmp}
use Rattle.std.specs.declared.cmp.Ordering.TheVariants.{Less, Equal, Greater}
use Rattle.swh_entries.proofs.Fronts.{front-decides}
use Rattle.swh_entries.proofs.order.is_less.Goals as goal

pub returns-in-Less : goal.returns-in-Less
returns-in-Less c =
    let n = c.common_of-common.result in
    let fronts : slice_cmp nat_cmp (take n c.args.a.now) (take n c.args.b.now) ≡ Less = rw (c.split_at.ensures.front, c.split_at-2.ensures.front) at (sym c.cmp.ensures ∙ c.in-Less.is) in
    sym (front-decides c.args.a.now c.args.b.now c.args.a_end.now c.args.b_end.now n Less c.common_of-common.ensures.first c.common_of-common.ensures.second fronts)

pub returns-in-Equal : goal.returns-in-Equal
returns-in-Equal c =
    let n = c.common_of-common.result in
    let fronts : slice_cmp nat_cmp (take n c.args.a.now) (take n c.args.b.now) ≡ Equal = rw (c.split_at.ensures.front, c.split_at-2.ensures.front) at (sym c.cmp.ensures ∙ c.in-Equal.is) in
    (rw (c.split_at.ensures.back, c.split_at-2.ensures.back) at c.is_rest_less.ensures)
    ∙ sym (front-decides c.args.a.now c.args.b.now c.args.a_end.now c.args.b_end.now n Equal c.common_of-common.ensures.first c.common_of-common.ensures.second fronts)

pub returns-in-Greater : goal.returns-in-Greater
returns-in-Greater c =
    let n = c.common_of-common.result in
    let fronts : slice_cmp nat_cmp (take n c.args.a.now) (take n c.args.b.now) ≡ Greater = rw (c.split_at.ensures.front, c.split_at-2.ensures.front) at (sym c.cmp.ensures ∙ c.in-Greater.is) in
    sym (front-decides c.args.a.now c.args.b.now c.args.a_end.now c.args.b_end.now n Greater c.common_of-common.ensures.first c.common_of-common.ensures.second fronts)
