use Rattle.std.proofs.Common.{◌≡◌, ◌<◌, ◌^◌, take, drop}
use Rattle.std.specs.List.{AllPass}
use Rattle.swh_base.specs.Text.{is_digit, value_from}
use Rattle.swh_base.proofs.number.number_of.Given as goal

abbrev pub invariant-loop-digit : goal.invariant-loop-digit
invariant-loop-digit l = record {
  value : value_from 0 l.digits ≡ value_from l.n (drop l.digit-index l.digits);
  small : l.n < 10 ^ l.digit-index;
  digits : AllPass is_digit (take l.digit-index l.digits);
}
