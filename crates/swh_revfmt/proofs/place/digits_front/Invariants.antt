use Rattle.std.proofs.Common.{◌≤◌, take}
use Rattle.std.specs.List.{AllPass}
use Rattle.swh_base.specs.Name.{is_lower_hex_digit}
use Rattle.swh_revfmt.proofs.place.digits_front.Given as goal

abbrev pub invariant-loop-i : goal.invariant-loop-i
invariant-loop-i l = record { few : l.i ≤ 40; digits : AllPass is_lower_hex_digit (take l.i l.bytes) }
