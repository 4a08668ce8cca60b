use Rattle.std.proofs.Common.{◌≡◌, ◌≤◌, length, take}
use Rattle.swh_revfmt.proofs.place.common_front.Given as goal

abbrev pub invariant-loop-i : goal.invariant-loop-i
invariant-loop-i l = record { in_line : l.i ≤ length l.line; same : take l.i l.bytes ≡ take l.i l.line }
