use Rattle.swh_core.proofs.Files.{not_outside, before_range, behind_range}
use Rattle.swh_core.proofs.disk.is_outside.Goals.{else-range-k-via-then-range-k+else-k-range, else-range-k-via-else-range-k}
use Rattle.swh_core.proofs.disk.is_outside.Goals as goal

pub returns-then-k-range : goal.returns-then-k-range
returns-then-k-range c = (λ e. absurd (cc), λ out. absurd (not_outside c.args.ranges.now c.loop-range.range-index c.args.k _ c.loop-range-test.true c.if-range-k.true c.if-k-range.true out))

pub loop-range-preserved : goal.loop-range-preserved
loop-range-preserved c = elim c.else-range-k.branch [
  | else-range-k-via-then-range-k+else-k-range w ↦ behind_range c.args.ranges.now c.loop-range.range-index c.args.k _ c.loop-range-test.true c.loop-range.invariant w.if-range-k.true w.if-k-range.false
  | else-range-k-via-else-range-k w ↦ before_range c.args.ranges.now c.loop-range.range-index c.args.k _ c.loop-range-test.true c.loop-range.invariant w.if-range-k.false
]
