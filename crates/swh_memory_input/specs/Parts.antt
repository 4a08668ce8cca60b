-- What the sinks and clocks in memory hold, and what is kept of their calls.
use Rattle.std.specs.Prelude.{ℕ, Bool, ◌+◌, ◌/◌, ◌||◌, nat_lt, nat_le, List, length, if◌then◌else◌}
use Rattle.swh_memory_failures.specs.Tally.{Tally, is_next_listed}
use Rattle.swh_memory_input.specs.declared.sink.MemorySink.{MemorySink}
use Rattle.swh_memory_input.specs.declared.clock.MemoryClock.{MemoryClock}

-- the bytes that were put
abbrev pub sink_bytes : MemorySink → List ℕ
sink_bytes sink = sink.bytes.items

-- how many bytes it takes
abbrev pub sink_room : MemorySink → ℕ
sink_room sink = sink.room

-- which of its calls are to fail, and how many did
abbrev pub sink_tally : MemorySink → Tally
sink_tally sink = sink.failures

-- how often it has failed
abbrev pub sink_faults : MemorySink → ℕ
sink_faults sink = sink.failures.faults

-- the next call, with so many bytes, is to fail
abbrev pub is_put_to_fail : MemorySink → ℕ → Bool
is_put_to_fail sink count = is_next_listed (sink_tally sink) || nat_lt sink.room (length sink.bytes.items + count)

-- how many of so many bytes the next call takes: all, half of them where it is listed, or none where they pass the room
abbrev pub taken_count : MemorySink → ℕ → ℕ
taken_count sink count = let most = if is_next_listed (sink_tally sink) then count / 2 else count in if nat_le (length sink.bytes.items + most) sink.room then most else 0

-- what it says at each call from here on
abbrev pub clock_time : MemoryClock → ℕ → ℕ
clock_time clock _ = clock.time

-- which of its calls are to fail, and how many did
abbrev pub clock_tally : MemoryClock → Tally
clock_tally clock = clock.failures

-- how often it has failed
abbrev pub clock_faults : MemoryClock → ℕ
clock_faults clock = clock.failures.faults
