-- What is kept of a part's calls.
use Rattle.std.specs.Prelude.{◌+◌, ◌-◌, ◌^◌, ◌==◌, ℕ, Bool, List, min, if◌then◌else◌}
use Rattle.std.specs.List.{list_any}

-- the numbers of the calls that are to fail, how many calls there were, and how many failed
pub record Tally : Type 0 where
  pub failing : List ℕ
  pub calls : ℕ
  pub faults : ℕ

-- the calls of these numbers are to fail, and there was none so far
abbrev pub fresh_tally : List ℕ → Tally
fresh_tally failing = record { failing = failing; calls = 0; faults = 0 }

-- the next call is to fail
abbrev pub is_next_listed : Tally → Bool
is_next_listed tally = list_any (λ n. n == tally.calls) tally.failing

-- one call more
abbrev pub called : Tally → Tally
called tally = record tally { calls = min (tally.calls + 1) (2 ^ 64 - 1) }

-- one failure more
abbrev pub refused : Tally → Tally
refused tally = record tally { faults = min (tally.faults + 1) (2 ^ 64 - 1) }

-- one call more, which failed or not
abbrev pub tallied : Bool → Tally → Tally
tallied failed tally = if failed then refused (called tally) else called tally
