use Rattle.swh_memory_disk.proofs.RangeLaws.{not_outside}
use Rattle.swh_memory_disk.proofs.ranges.is_outside.Goals as goal

pub returns-then-k-range : goal.returns-then-k-range
returns-then-k-range c = (λ e. absurd (cc), λ out. absurd (not_outside c.args.ranges.now c.loop-range.range-index c.args.k _ c.loop-range-test.true c.if-range-k.true c.if-k-range.true out))
