-- A text in memory.
use Rattle.std.specs.Prelude.{ℕ, List}
use Rattle.swh_api.specs.declared.collected.Collected.{Collected}

-- the bytes that were put
abbrev pub collected_bytes : Collected → List ℕ
collected_bytes c = c.bytes.items

-- how often memory ran out
abbrev pub collected_faults : Collected → ℕ
collected_faults c = c.faults
