use Rattle.swh_memory_disk.proofs.PastSteps.{IsSoFar}
use Rattle.swh_memory_disk.proofs.past.Past.after.Given as goal

abbrev pub invariant-loop-noted : goal.invariant-loop-noted
invariant-loop-noted l = IsSoFar l.made l.calls l.written l.noted-index l.rest l.past
