use Rattle.swh_model.proofs.Bytes.{SoFar}
use Rattle.swh_model.proofs.adding.before_last.Given as goal

abbrev pub invariant-loop-entry : goal.invariant-loop-entry
invariant-loop-entry l = SoFar l.entries l.entry-index l.before l.last
