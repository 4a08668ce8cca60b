use Rattle.std.proofs.Common.{◌≡◌, ◌+◌, drop}
use Rattle.swh_swhid.specs.Front.{common}
use Rattle.swh_swhid.proofs.front.shared.Given as goal

abbrev pub invariant-loop-i : goal.invariant-loop-i
invariant-loop-i l = common l.word l.text ≡ l.i + common (drop l.i l.word) (drop l.i l.text)
