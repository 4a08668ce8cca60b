use Rattle.std.proofs.Common.{sym, ◌∙◌}
use Rattle.swh_replies.proofs.Shapes.{not_one_part, not_empty}
use Rattle.swh_replies.proofs.asked.one_part.Goals as goal

pub returns-else-is_empty-clause-none : goal.returns-else-is_empty-clause-none
returns-else-is_empty-clause-none c =
    let cut = c.in-Some.ensures.some in
    not_one_part c.args.tail.now c.in-Some.part.now c.in-Some.rest.now cut.0 cut.1 (not_empty c.in-Some.rest.now (sym c.is_empty.ensures ∙ c.if-is_empty.false))
