use Rattle.std.proofs.Common.{◌∙◌}
use Rattle.swh_fastlex.proofs.Windows.{stays_unread}
use Rattle.swh_fastlex.proofs.feed.next_feed.Goals as goal

pub returns-in_default-clause-feed : goal.returns-in_default-clause-feed
returns-in_default-clause-feed g c =
    let some = rw c.if-not-branch.false at c.in_ok-fill.ensures.some in
    λ told. stays_unread c.args.window.now c.fill.new.self (g.S.Source.left c.args.source.now) (g.S.Source.left c.fill.new.source) (c.in_ok-fill.ensures.kept told) c.in_ok-fill.ensures.same_place some (λ more e. c.in_default.ensures.none more (c.held.ensures ∙ e))
