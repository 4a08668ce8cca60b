-- What a yard in memory has made, and what is kept of its calls.
use Rattle.std.specs.Prelude.{ℕ, Bool, ◌||◌, List, map, string_bytes}
use Rattle.std.specs.List.{list_any}
use Rattle.std.specs.Str.{bytes_eq}
use Rattle.swh_outside.specs.Sink.{Begun, FolderAt, FileAt}
use Rattle.swh_memory_failures.specs.Tally.{Tally, is_next_listed}
use Rattle.swh_memory_input.specs.Parts.{sink_bytes, sink_room, sink_tally, sink_faults, is_put_to_fail, taken_count}
use Rattle.swh_memory_input.specs.declared.making.Begins.{Begins}
use Rattle.swh_memory_input.specs.declared.making.Begins.TheVariants.{Folder, File}
use Rattle.swh_memory_input.specs.declared.making.Making.{Making}
use Rattle.swh_memory_input.specs.declared.yard.MemoryYard.{MemoryYard}

-- what begins at a path
abbrev pub begins_at : Begins → List ℕ → Begun
begins_at Folder path = FolderAt path
begins_at (File from) path = FileAt path from

-- the same of what was begun
abbrev pub begun_of : Making → Begun
begun_of making = begins_at making.begins (string_bytes making.path)

-- it was begun at this path
abbrev pub is_making_at : List ℕ → Making → Bool
is_making_at path making = bytes_eq (string_bytes making.path) path

-- what was begun, in its order
abbrev pub yard_makings : MemoryYard → List Making
yard_makings yard = yard.makings.items

-- the same, as a yard tells it
abbrev pub yard_begun : MemoryYard → List Begun
yard_begun yard = map begun_of yard.makings.items

-- the bytes that were put
abbrev pub yard_taken : MemoryYard → List ℕ
yard_taken yard = sink_bytes yard.sink

-- how many bytes it takes
abbrev pub yard_room : MemoryYard → ℕ
yard_room yard = sink_room yard.sink

-- which of its calls are to fail, and how many did
abbrev pub yard_tally : MemoryYard → Tally
yard_tally yard = sink_tally yard.sink

-- how often the yard has failed
abbrev pub yard_faults : MemoryYard → ℕ
yard_faults yard = sink_faults yard.sink

-- the next call, which is to make something at this path, is to fail
abbrev pub is_making_to_fail : MemoryYard → List ℕ → Bool
is_making_to_fail yard path = is_next_listed (yard_tally yard) || list_any (is_making_at path) (yard_makings yard)

-- the next call, with so many bytes, is to fail
abbrev pub is_yard_put_to_fail : MemoryYard → ℕ → Bool
is_yard_put_to_fail yard count = is_put_to_fail yard.sink count

-- how many of so many bytes the next call takes: all, half of them where it is listed, or none where they pass the room
abbrev pub yard_taken_count : MemoryYard → ℕ → ℕ
yard_taken_count yard count = taken_count yard.sink count
