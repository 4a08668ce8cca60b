use Rattle.swh_fastcarried.proofs.FirstRules.{rule_tagless}
use Rattle.swh_fastcarried.proofs.Reaching.{not_true}
use Rattle.swh_fastcarried.proofs.first.rule_of_release.Goals as goal

pub returns-then-is_tagless : goal.returns-then-is_tagless
returns-then-is_tagless g c =
    let r = c.args.reached.now in
    let it = c.is_tagless.ensures.0 c.if-is_tagless.true in
    rule_tagless (g.L.Look.archive c.args.look.now).bodies r.root r.order.now c.args.name c.requires.kind (not_true c.in_ok-is_odd_release.ensures c.if-branch.false) it.0
    (λ stands. it.1 ((c.requires.knows.tagged it.0 c.args.name c.requires.kind).1 stands))
