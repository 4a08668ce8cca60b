use Rattle.std.proofs.Common.{◌-◌, length}
use Rattle.swh_swhid.specs.Reading.{IsPlace}
use Rattle.swh_swhid.proofs.parsing.read.Given as goal

abbrev pub invariant-loop-at : goal.invariant-loop-at
invariant-loop-at l = IsPlace l.text l.at l.swhid

abbrev pub decreases-loop-at : goal.decreases-loop-at
decreases-loop-at l = length l.text - l.at
