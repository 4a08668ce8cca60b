-- Counts that rose.
use Rattle.std.proofs.Common.{ℕ, ◌<◌, ◌≤◌, arith}
use Rattle.swh_outside.specs.Faults.{Rose}

-- a count that rose later rose since before
pub rose_since : (a b c : ℕ) → a ≤ b → Rose b c → Rose a c
rose_since a b c le rose = omega (arith, le, rose)

pub rose_until : (a b c : ℕ) → Rose a b → b ≤ c → Rose a c
rose_until a b c rose le = omega (arith, rose, le)

pub rose_above : (a b : ℕ) → Rose a b → 0 < b
rose_above a b rose = omega (arith, rose)
