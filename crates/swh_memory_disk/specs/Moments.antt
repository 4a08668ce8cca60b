-- A file as it was, in memory.
use Rattle.swh_outside.specs.Disk.{File}
use Rattle.swh_memory_disk.specs.Past.{IsKeptAs}
use Rattle.swh_memory_disk.specs.declared.past.Past.{Past}

-- its fields are those of the file
abbrev pub IsOfFile : File → Past → Type 0
IsOfFile file past = IsKeptAs file past.base.items past.ranges.items past.longest past.bytes.items
