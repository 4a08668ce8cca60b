use Rattle.std.proofs.Common.{take}
use Rattle.swh_marks.specs.Others.{AreOthers}
use Rattle.swh_marks.proofs.marks.places_of_others.Given as goal

abbrev pub invariant-loop-place : goal.invariant-loop-place
invariant-loop-place l = AreOthers l.places l.names (take l.place l.names) l.others
