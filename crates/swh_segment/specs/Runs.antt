-- The bytes that an event adds to the store: none, or the run of a batch, which may be empty.
use Rattle.std.specs.Prelude.{ℕ, List, Option, Some, None}
use Rattle.swh_segment.specs.declared.event.Run.{Run}
use Rattle.swh_segment.specs.declared.event.Run.TheVariants.{None as NoRun, Batch}

-- the bytes of a run, where there is one
abbrev pub run_of : Run → Option (List ℕ)
run_of NoRun = None
run_of (Batch bytes) = Some bytes.now
