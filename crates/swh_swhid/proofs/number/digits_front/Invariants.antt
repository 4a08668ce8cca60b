use Rattle.std.proofs.Common.{take}
use Rattle.swh_swhid.specs.Number.{BeginsNumber}
use Rattle.swh_swhid.proofs.number.digits_front.Given as goal

abbrev pub invariant-loop-i : goal.invariant-loop-i
invariant-loop-i l = BeginsNumber l.least (take l.i l.text) l.value
