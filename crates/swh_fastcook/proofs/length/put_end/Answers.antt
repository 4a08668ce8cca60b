use Rattle.swh_fastwrite.specs.Held.{kept}
use Rattle.swh_fastcook.proofs.StreamTexts.{all_taken}
use Rattle.swh_fastcook.proofs.length.put_end.Goals as goal

pub returns : goal.returns
returns g c =
    let mid = kept c.write_end.new.taker c.write_end.new.held.items in
    let done = rw c.new-held.ensures.items at c.in_ok-write_end.ensures.bytes.ok in (
      done.0,
      done.1,
      all_taken g.T.Taker.takes g.T.Taker.takes_front g.met.T.Taker.adds_up c.args.taker.now mid done.0 done.2 (kept c.flush.new.taker c.flush.new.held.items) c.in_ok-flush.ensures.bytes.ok c.in_ok-flush.ensures.emptied,
    )
