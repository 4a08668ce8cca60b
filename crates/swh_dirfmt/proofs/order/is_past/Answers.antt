use Rattle.std.proofs.Common.{sym, ◌∙◌}
use Rattle.swh_base.proofs.Elementary.{less_from}
use Rattle.swh_dirfmt.proofs.Follows.{after_last}
use Rattle.swh_dirfmt.proofs.Places.{none_past, file_of}
use Rattle.swh_dirfmt.proofs.order.is_past.Goals as goal

pub returns-in-Some : goal.returns-in-Some
returns-in-Some c =
    let item = c.in-Some.ensures.item in
    λ t. none_past c.args.before.now c.args.name.now (after_last c.args.before.now c.in-Some.last.now (file_of c.args.name.now) item.3.0 item.1 c.requires (less_from _ (sym c.is_before.ensures ∙ t)))
