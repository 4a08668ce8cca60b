use Rattle.std.proofs.Common.{◌≡◌, take, true}
use Rattle.swh_swhid.specs.Reading.{is_whole}
use Rattle.swh_swhid.proofs.parsing.piece_end.Given as goal

abbrev pub invariant-loop-i : goal.invariant-loop-i
invariant-loop-i l = is_whole (take l.i l.text) ≡ true
