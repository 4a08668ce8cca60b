-- How the making of an archive ends.
use Rattle.std.specs.Prelude.{◌≡◌, ◌⊎◌, Result, OnOk, IsErrOf}
use Rattle.swh_outside.specs.Files.{Files, files_done, FilesBreaks}
pub use Rattle.swh_segment.specs.Counts.{ADiskFailed}
use Rattle.swh_segment.specs.Making.{making_calls}
use Rattle.swh_segment.specs.declared.fault.MakeFault.{MakeFault}
use Rattle.swh_segment.specs.declared.fault.MakeFault.TheVariants.{Made, Disk}

-- all calls at `Ok`; none where it is made already; up to one that failed
pub record Makes (old new : Files) (result : Result (Unit {0}) MakeFault) : Type 0 where
  pub ok : OnOk result (new ≡ files_done (making_calls (old 0).seen) old)
  pub made : IsErrOf result Made → new ≡ old
  pub failed : IsErrOf result Disk → (new ≡ old) ⊎ FilesBreaks (making_calls (old 0).seen) old new

-- P, unless a disk failed
abbrev pub UnlessDiskFault : MakeFault → Type 0 → Type 0
UnlessDiskFault Disk P = Unit {0}
UnlessDiskFault Made P = P
