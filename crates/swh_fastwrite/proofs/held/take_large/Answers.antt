use Rattle.swh_fastwrite.specs.Held.{kept}
use Rattle.swh_fastwrite.proofs.Pieces.{taken_alone}
use Rattle.swh_fastwrite.proofs.held.take_large.Goals as goal

pub returns-clause-bytes : goal.returns-clause-bytes
returns-clause-bytes g c =
    let f = c.in_ok-flush.ensures in
    taken_alone g.T.Taker.takes g.T.Taker.takes_front g.met.T.Taker.adds_up (kept c.args.taker.now c.args.held.now.items)
    (kept c.flush.new.taker c.flush.new.held.items) c.args.bytes.now c.take.new.self c.take.result f.bytes.ok f.emptied c.take.ensures.ok
    c.take.ensures.err
