-- Calls on record.
use Rattle.std.proofs.Common.{◌≡◌, ℕ, ◌+◌, ◌≤◌, List, [], ◌∷◌, ◌++◌, ◌∙◌, arith}
use Rattle.swh_memory_disk.specs.Record.{size_of, sizes_of}
use Rattle.swh_memory_disk.specs.declared.record.MemoryRecord.{MemoryRecord}

pub sizes_of-push : (calls : List MemoryRecord) (r : MemoryRecord) → sizes_of (calls ++ r ∷ []) ≡ sizes_of calls + size_of r.call
sizes_of-push [] r = omega arith
sizes_of-push (q ∷ calls) r = omega (arith, sizes_of-push calls r)
