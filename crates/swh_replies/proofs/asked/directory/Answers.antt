use Rattle.std.proofs.Common.{sym, ◌∙◌}
use Rattle.swh_replies.proofs.Shapes.{no_directory_id, no_directory, not_empty}
use Rattle.swh_replies.proofs.asked.directory.Goals as goal

pub returns-in_default-clause-none : goal.returns-in_default-clause-none
returns-in_default-clause-none c = no_directory_id c.args.tail.now c.in_default.ensures.none

pub returns-in_default-before-clause-none : goal.returns-in_default-before-clause-none
returns-in_default-before-clause-none c =
    let cut = c.in-Some.ensures.some in
    let some = not_empty c.in-Some.rest.now (sym c.is_empty.ensures ∙ c.if-is_empty.false) in
    no_directory c.args.tail.now c.in-Some.id.now c.in-Some.rest.now cut.0 cut.1 some c.in_default-before.ensures.none
