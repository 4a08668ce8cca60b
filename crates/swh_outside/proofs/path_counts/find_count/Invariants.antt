use Rattle.std.proofs.Common.{◌≡◌, ◌<◌, ℕ, false, get_or}
use Rattle.swh_outside.specs.Counts.{is_of}
use Rattle.swh_outside.specs.declared.path_counts.PathCount.{PathCount}
use Rattle.swh_outside.proofs.path_counts.find_count.Given as goal

abbrev pub invariant-loop-i : goal.invariant-loop-i
invariant-loop-i l = (z : PathCount) (k : ℕ) → k < l.i → is_of l.path (get_or l.counts k z) ≡ false
