use Rattle.std.proofs.Common.{length, ap}
use Rattle.swh_model.proofs.Bytes.{so-far-next, small-at}
use Rattle.swh_model.proofs.adding.before_last.Goals as goal

pub loop-entry-preserved : goal.loop-entry-preserved
loop-entry-preserved c =
    so-far-next c.args.entries.now c.loop-entry.entry-index c.loop-entry.before c.loop-entry.last (length c.as_slice.result.now) c.entry-item.result
    c.loop-entry-test.true c.entry-item.is (ap length c.as_slice.ensures)
    (let small = small-at c.args.entries.now c.loop-entry.entry-index c.entry-item.result c.loop-entry-test.true c.entry-item.is c.requires.small in rw c.as_slice.ensures small) c.loop-entry.invariant
