use Rattle.std.proofs.Common.{arith}
use Rattle.std.specs.Option.{option_to_list}
use Rattle.swh_rows.proofs.PieceLemmas.{ends-cut, rows-cut}
use Rattle.swh_rows.proofs.pieces.Pieces.pop.Goals as goal

pub invariant_of-self : goal.invariant_of-self
invariant_of-self g c =
    let len = c.len.ensures in
    let ok = c.pop-list.new.self.ok.0 in
    ends-cut c.self.inside.lists.items c.pop-list.new.self.items (option_to_list c.pop-list.result) c.self.inside.ends.items c.truncate.new.self.items c.len.result
    c.self.invariant c.pop-list.ensures.items (omega (arith, len, ok)) c.truncate.ensures.items

pub returns-clause-some : goal.returns-clause-some
returns-clause-some g c =
    rows-cut c.self.inside.lists.items c.pop-list.new.self.items c.pop-list.result c.args.self.now c.self.view_is c.pop-list.ensures.items
