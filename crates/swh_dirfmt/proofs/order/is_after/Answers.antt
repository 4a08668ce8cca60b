use Rattle.std.proofs.Common.{ap, sym, ◌∙◌}
use Rattle.std.specs.Ordering.{is_lt}
use Rattle.swh_base.proofs.Elementary.{less_from}
use Rattle.swh_dirfmt.specs.Entries.{entry_of}
use Rattle.swh_dirfmt.proofs.Follows.{after_last, last-before}
use Rattle.swh_dirfmt.proofs.order.is_after.Goals as goal

pub returns-in-Some : goal.returns-in-Some
returns-in-Some c =
    let item = c.in-Some.ensures.item in (
      λ t. after_last c.args.before.now c.in-Some.last.now (entry_of c.args.next.now) item.3.0 item.1 c.requires (less_from _ (sym c.is_before.ensures ∙ t)),
      λ h. c.is_before.ensures ∙ ap is_lt (last-before c.args.before.now c.in-Some.last.now (entry_of c.args.next.now) item.3.0 item.1 h),
    )
