-- What a link in memory holds, and what is kept of its calls.
use Rattle.std.specs.Prelude.{◌≡◌, ℕ, Bool, false, List, []}
use Rattle.swh_outside.specs.Link.{LinkNote}
use Rattle.swh_outside.specs.Source.{Heard}
use Rattle.swh_memory_failures.specs.Tally.{Tally}
use Rattle.swh_memory_input.specs.Inputs.{source_left, source_given, source_ended, source_piece}
use Rattle.swh_memory_input.specs.Parts.{sink_bytes, sink_room, sink_tally, sink_faults, is_put_to_fail, taken_count}
use Rattle.swh_memory_input.specs.declared.link.MemoryLink.{MemoryLink}

-- the bytes that are left to give
abbrev pub link_left : MemoryLink → List ℕ
link_left link = source_left link.source

-- the bytes that it gave
abbrev pub link_given : MemoryLink → List ℕ
link_given link = source_given link.source

-- a call met the end of what it gives
abbrev pub link_ended : MemoryLink → Bool
link_ended link = source_ended link.source

-- how many bytes a call gives at most, where it is above 0
abbrev pub link_piece : MemoryLink → ℕ
link_piece link = source_piece link.source

-- the bytes that were put
abbrev pub link_taken : MemoryLink → List ℕ
link_taken link = sink_bytes link.sink

-- how many bytes it takes
abbrev pub link_room : MemoryLink → ℕ
link_room link = sink_room link.sink

-- which of its calls, gets and puts together, are to fail, and how many did
abbrev pub link_tally : MemoryLink → Tally
link_tally link = sink_tally link.sink

-- how often it has failed
abbrev pub link_faults : MemoryLink → ℕ
link_faults link = sink_faults link.sink

-- what was heard of it
abbrev pub link_heard : MemoryLink → Heard
link_heard link = record { left = link_left link; given = link_given link; ended = link_ended link }

-- what doors note of it
abbrev pub note_of : MemoryLink → LinkNote
note_of link = record { given = link_given link; ended = link_ended link; taken = link_taken link; faults = link_faults link }

-- nothing was given or taken yet, and no call failed
abbrev pub IsUnused : MemoryLink → Type 0
IsUnused link = note_of link ≡ record { given = []; ended = false; taken = []; faults = 0 }

-- the next put, of so many bytes, is to fail
abbrev pub is_link_put_to_fail : MemoryLink → ℕ → Bool
is_link_put_to_fail link count = is_put_to_fail link.sink count

-- how many of so many bytes the next put takes: all, half of them where it is listed, or none where they pass the room
abbrev pub link_taken_count : MemoryLink → ℕ → ℕ
link_taken_count link count = taken_count link.sink count
