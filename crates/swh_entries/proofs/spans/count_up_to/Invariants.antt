use Rattle.std.proofs.Common.{◌≤◌, ◌-◌, length}
use Rattle.swh_entries.proofs.spans.count_up_to.Given as goal

abbrev pub invariant-halves : goal.invariant-halves
invariant-halves l = record { within : l.low ≤ l.high; inside : l.high ≤ length l.entries }

abbrev pub decreases-halves : goal.decreases-halves
decreases-halves l = l.high - l.low
