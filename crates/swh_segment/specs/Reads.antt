-- What a call leaves that only reads a disk, or both.
use Rattle.std.specs.Prelude.{◌≡◌, ◌≤◌, ℕ, Result, OnOk, IfErr, IsErrOf}
use Rattle.swh_outside.specs.Disk.{File}
use Rattle.swh_outside.specs.Faults.{Rose}
use Rattle.swh_segment.specs.Counts.{CountFaults}

-- Of a disk its file and the count of its faults are seen, before the call and after it. Where the disk tells what it holds,
-- the file is as it was. The count did not fall: it rose where the answer is `failed`, and stayed where it is any other, which
-- `Unless` says of each fault.
pub record OnlyReads {T E : Type 0} (tells : Type 0) (Unless : E → Type 0 → Type 0) (failed : E) (old new : File × ℕ) (result : Result T E) : Type 0 where
  pub same : tells → new.0 ≡ old.0
  pub later : old.1 ≤ new.1
  pub cause : IsErrOf result failed → Rose old.1 new.1
  pub quiet : OnOk result (new.1 ≡ old.1)
  pub quiet_fault : IfErr result (λ fault. Unless fault (new.1 ≡ old.1))

-- The same of both disks: one of the two counts rose where the answer is `failed`. Of each disk its file and its count are seen,
-- before the call and after it.
pub record OnlyReadsBoth {T E : Type 0} (tells : Type 0) (Unless : E → Type 0 → Type 0) (failed : E) (store ledger : (File × ℕ) × (File × ℕ)) (result : Result T E) : Type 0 where
  pub same_store : tells → store.1.0 ≡ store.0.0
  pub same_ledger : tells → ledger.1.0 ≡ ledger.0.0
  pub counts : CountFaults Unless failed (store.0.1, store.1.1) (ledger.0.1, ledger.1.1) result
