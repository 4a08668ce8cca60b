-- What a source in memory holds, and what is kept of its calls.
use Rattle.std.specs.Prelude.{ℕ, Bool, List, take, drop, string_bytes}
use Rattle.swh_memory_failures.specs.Tally.{Tally}
use Rattle.swh_memory_input.specs.declared.source.MemorySource.{MemorySource}

-- the bytes that are left
abbrev pub source_left : MemorySource → List ℕ
source_left source = drop source.at source.bytes.items

-- the bytes that it gave
abbrev pub source_given : MemorySource → List ℕ
source_given source = take source.at source.bytes.items

-- a call met the end
abbrev pub source_ended : MemorySource → Bool
source_ended source = source.ended

-- where it was opened
abbrev pub source_path : MemorySource → List ℕ
source_path source = string_bytes source.path

-- how many bytes a call gives at most, where it is above 0
abbrev pub source_piece : MemorySource → ℕ
source_piece source = source.piece

-- which of its calls are to fail, and how many did
abbrev pub source_tally : MemorySource → Tally
source_tally source = source.failures

-- how often it has failed
abbrev pub source_faults : MemorySource → ℕ
source_faults source = source.failures.faults
