-- A batch with its refs that is read part by part, as a loader reads it.
use Rattle.std.specs.Prelude.{◌≡◌, ◌⊎◌, ℕ, ◌<◌, ◌≤◌, Some, List, ◌++◌}
use Rattle.swh_base.specs.declared.kind.Kind.{Kind}
use Rattle.swh_base.specs.declared.entry.Entry.{Entry}
use Rattle.swh_base.specs.declared.visit.VisitKind.TheVariants.{Batch}
use Rattle.swh_outside.specs.Faults.{Rose}
use Rattle.swh_outside.specs.Views.{Sources}
use Rattle.swh_batchread.specs.Batch.{input_limit}
use Rattle.swh_batchread.specs.Giving.{BatchState, EndsBatch, GoesOn}
use Rattle.swh_ingest.specs.declared.parts.Next.{Next}
use Rattle.swh_ingest.specs.declared.parts.Next.TheVariants as next
use Rattle.swh_inputs.specs.Input.InputText.{BatchText}
use Rattle.swh_inputs.specs.Reading.{GivesSo}
use Rattle.swh_inputs.specs.declared.bad.InputFault.{InputFault}

-- The batch may be read on.
abbrev pub BatchMayGoOn : BatchState → Type 0
BatchMayGoOn s = s.held.place ≤ input_limit

-- The reader came on, and the batch may be read on.
pub record BatchCameOn (old new : BatchState) : Type 0 where
  pub still : BatchMayGoOn new
  pub onward : old.held.place < new.held.place

-- Neither source failed: their counts of faults are as they were.
pub record AreQuiet {S : Type 0} (sources : Sources S) (source refs now others : S) : Type 0 where
  pub quiet : sources.faults now ≡ sources.faults source
  pub quiet_refs : sources.faults others ≡ sources.faults refs

module _ {S : Type 0} (id : Kind → List ℕ → List ℕ) (sources : Sources S) (source refs : S) where
  -- What comes after these objects.
  abbrev pub IsNextOfBatch : {N : Type 0} → List Entry → BatchState → S → S → Next N InputFault → Type 0
  IsNextOfBatch before s now others (next.Part objects) = GoesOn id sources source refs (before ++ objects.items) s now others
  IsNextOfBatch before s now others (next.Last last) = EndsBatch id sources source refs before now others last
  IsNextOfBatch {N} before s now others (next.Bad bad) = GivesSo id Batch sources.tells (Some (BatchText (sources.left source) (sources.left refs))) {N = N} (Rose (sources.faults source) (sources.faults now) ⊎ Rose (sources.faults refs) (sources.faults others)) (next.Bad bad)
