use Rattle.std.proofs.Common.{◌∙◌}
use Rattle.swh_replies.proofs.Lasts.{last-is}
use Rattle.swh_replies.proofs.visits.last_mark.Goals as goal

pub returns-in-Some : goal.returns-in-Some
returns-in-Some c =
    let item = rw c.as_slice.ensures at c.in-Some.ensures.item in
    item.1 ∙ last-is c.args.visit.now.statuses c.in-Some.last.now item.3.0
