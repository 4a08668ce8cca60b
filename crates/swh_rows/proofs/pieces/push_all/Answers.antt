use Rattle.swh_rows.proofs.PieceLemmas.{rows-next, rows-all}
use Rattle.swh_rows.proofs.pieces.push_all.Goals as goal

pub loop-list-preserved : goal.loop-list-preserved
loop-list-preserved g c =
    rows-next c.args.pieces.now c.loop-list.pieces c.push.new.self c.args.lists.now c.loop-list.list-index c.list-item.result c.in_ok-more.more
    c.loop-list-test.true c.list-item.is c.in_ok-more.ensures c.loop-list.invariant c.in_ok-push.ensures.ok

pub returns : goal.returns
returns g c = rows-all c.args.pieces.now c.loop-list.pieces c.args.lists.now c.loop-list.list-index c.loop-list-test.false c.loop-list.invariant
