-- What doors in memory hold, and what is kept of their calls.
use Rattle.std.specs.Prelude.{◌||◌, ◌==◌, ℕ, Bool, List, map, length, not}
use Rattle.swh_outside.specs.Link.{LinkNote}
use Rattle.swh_memory_failures.specs.Tally.{Tally, is_next_listed}
use Rattle.swh_memory_input.specs.Links.{note_of}
use Rattle.swh_memory_input.specs.declared.link.MemoryLink.{MemoryLink}
use Rattle.swh_memory_input.specs.declared.doors.MemoryDoors.{MemoryDoors}

-- their address can be bound
abbrev pub doors_open : MemoryDoors → Bool
doors_open doors = doors.opens

-- the links that come in from here on, the next one at the front
abbrev pub doors_coming : MemoryDoors → List MemoryLink
doors_coming doors = doors.coming.items

-- the links that were given back, as they were then
abbrev pub doors_back : MemoryDoors → List MemoryLink
doors_back doors = doors.back.items

-- the same, as doors tell them
abbrev pub doors_given_back : MemoryDoors → List LinkNote
doors_given_back doors = map note_of doors.back.items

-- how many links are out, each with its place to be given back to
abbrev pub doors_places : MemoryDoors → ℕ
doors_places doors = doors.places

-- which of their calls are to fail, and how many did
abbrev pub doors_tally : MemoryDoors → Tally
doors_tally doors = doors.failures

-- how often they have failed
abbrev pub doors_faults : MemoryDoors → ℕ
doors_faults doors = doors.failures.faults

-- the next `bind` is to fail
abbrev pub is_bind_to_fail : MemoryDoors → Bool
is_bind_to_fail doors = is_next_listed (doors_tally doors) || not (doors_open doors)

-- the next `accept` is to fail
abbrev pub is_accept_to_fail : MemoryDoors → Bool
is_accept_to_fail doors = is_next_listed (doors_tally doors) || length (doors_coming doors) == 0
