use Rattle.std.proofs.Common.{◌≡◌, take}
use Rattle.swh_marks.specs.Marks.{written}
use Rattle.swh_marks.proofs.marks.written_of.Given as goal

abbrev pub invariant-loop-name : goal.invariant-loop-name
invariant-loop-name l = l.names.items ≡ written (take l.name-index l.order)
