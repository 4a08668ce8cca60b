-- What a check of all bodies answers, and what it leaves.
use Rattle.std.specs.Prelude.{◌≡◌, ◌≤◌, ℕ, List, Result, IfErr, OnOk, IsErrOf}
use Rattle.swh_base.specs.declared.kind.Kind.{Kind}
use Rattle.swh_outside.specs.Disk.{File}
use Rattle.swh_outside.specs.Faults.{Rose}
use Rattle.swh_model.specs.declared.event.Event.{Event}
use Rattle.swh_model.specs.Limits.{store_length}
use Rattle.swh_model.specs.Step.{replay}
use Rattle.swh_keeper.specs.Kept.{Kept}
use Rattle.swh_keeper.specs.Stored.{IsReadAgain}
use Rattle.swh_check.specs.Counts.{bodies_in}
use Rattle.swh_check.specs.declared.runs.Progress.{Progress}
use Rattle.swh_check.specs.declared.fault.CheckFault.{CheckFault}
use Rattle.swh_check.specs.declared.fault.CheckFault.TheVariants.{Damaged, DiskFault, Memory}
pub use Rattle.swh_check.specs.Bodies.{IsCheckFault}

-- No body is damaged.
abbrev pub IsNoDamage : CheckFault → Type 0
IsNoDamage (Damaged name found) = ⊥
IsNoDamage DiskFault = Unit {0}
IsNoDamage Memory = Unit {0}

-- P, unless a disk failed.
abbrev pub UnlessDiskFault : CheckFault → Type 0 → Type 0
UnlessDiskFault DiskFault P = Unit {0}
UnlessDiskFault (Damaged name found) P = P
UnlessDiskFault Memory P = P

-- The events were compared this far.
pub record IsProgress (h : List Event) (done : Progress) : Type 0 where
  pub at : done.at ≡ store_length h
  pub bodies : done.bodies ≡ bodies_in h

-- What reading stored bodies again leaves, and why it stops.
pub record Rereads {D T : Type 0} (id_of : Kind → List ℕ → List ℕ) (tells : Type 0) (file : D → File) (faults : D → ℕ) (old new : Kept D) (result : Result T CheckFault) : Type 0 where
  -- A damaged body is one that is held, and there is none where the disks tell.
  pub fault : IfErr result (IsCheckFault id_of (replay old.history).bodies)
  pub told : tells → IfErr result IsNoDamage
  -- All is as it was, but that the store's disk was read.
  pub same : IsReadAgain tells file old new
  -- Its count of faults rose where it is told that it failed, and is as it was where it did not fail.
  pub later : faults old.store ≤ faults new.store
  pub cause : IsErrOf result DiskFault → Rose (faults old.store) (faults new.store)
  pub quiet : OnOk result (faults new.store ≡ faults old.store)
  pub quiet_fault : IfErr result (λ fault. UnlessDiskFault fault (faults new.store ≡ faults old.store))
