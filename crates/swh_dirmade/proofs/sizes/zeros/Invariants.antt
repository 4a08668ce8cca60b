use Rattle.std.proofs.Common.{◌≡◌, ℕ, length, get_or}
use Rattle.swh_dirmade.proofs.sizes.zeros.Given as goal

abbrev pub invariant-zeros : goal.invariant-zeros
invariant-zeros l = record {
  count : length l.zeros.items ≡ l._turn;
  zero : (k : ℕ) → get_or l.zeros.items k 0 ≡ 0;
}
