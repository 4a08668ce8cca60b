use Rattle.std.proofs.Common.{take}
use Rattle.swh_swhid.proofs.Texts.{Leaves}
use Rattle.swh_swhid.proofs.text.read_text.Given as goal

abbrev pub invariant-loop-i : goal.invariant-loop-i
invariant-loop-i l = Leaves (take l.i l.text) l.due
