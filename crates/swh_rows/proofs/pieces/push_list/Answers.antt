use Rattle.std.proofs.Common.{◌≡◌, ℕ, List, length, ap, sym, ◌∙◌, arith}
use Rattle.swh_rows.specs.Pieces.{start_in}
use Rattle.swh_rows.proofs.PieceLemmas.{ends-grown}
use Rattle.swh_rows.proofs.pieces.push_list.Goals as goal

pub returns-clause-ends : goal.returns-clause-ends
returns-clause-ends g c =
    let ends = c.args.ends.now.items in
    let first : c.start_of-start.result ≡ start_in ends (length ends) =
    c.start_of-start.ensures
    ∙ ap (start_in c.as_slice.result.now) (c.len.ensures ∙ sym c.as_slice.ensures.len)
    ∙ ap (λ (es : List ℕ). start_in es (length es)) c.as_slice.ensures.value in
    let many : length c.as_slice-count.result.now ≡ length c.args.list = ap length c.as_slice-count.ensures in
    let total = c.in-Some.ensures.1 in
    ends-grown c.args.lists.now.items c.reserve.new.self.items c.push_reserved.new.self.items c.args.list ends c.reserve-2.new.self.items c.push_reserved-2.new.self.items c.in-Some.end
    c.requires c.reserve.ensures.items c.push_reserved.ensures.items c.reserve-2.ensures.items c.push_reserved-2.ensures.items (omega (arith, first, many, total))
