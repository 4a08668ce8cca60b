-- How the counts of faults of the two disks go.
use Rattle.std.specs.Prelude.{◌≡◌, ◌⊎◌, ℕ, ◌≤◌, Result, OnOk, OnErr, IfErr, IsErrOf}
use Rattle.swh_outside.specs.Faults.{Rose}

-- one of the two counts rose
abbrev pub ADiskFailed : ℕ → ℕ → ℕ → ℕ → Type 0
ADiskFailed store_before store_now ledger_before ledger_now = Rose store_before store_now ⊎ Rose ledger_before ledger_now

-- Neither count of faults fell.
pub record AreLater (store store' ledger ledger' : ℕ) : Type 0 where
  pub store_later : store ≤ store'
  pub ledger_later : ledger ≤ ledger'

-- Both counts of faults are as they were.
pub record AreQuiet (store store' ledger ledger' : ℕ) : Type 0 where
  pub store_quiet : store' ≡ store
  pub ledger_quiet : ledger' ≡ ledger

-- A call on both disks fails only where one of the two counts rose, and leaves both as they were where it does not fail. Of each
-- disk its count is seen, before the call and after it.
pub record HaveCause {T E : Type 0} (store ledger : ℕ × ℕ) (result : Result T E) : Type 0 where
  pub later : AreLater store.0 store.1 ledger.0 ledger.1
  pub failed : OnErr result (ADiskFailed store.0 store.1 ledger.0 ledger.1)
  pub quiet : OnOk result (AreQuiet store.0 store.1 ledger.0 ledger.1)

-- The same of a call that may fail for something else: one of the counts rose where the answer is `failed`, and both are as they
-- were where it is any other, which `Unless` says of each fault.
pub record CountFaults {T E : Type 0} (Unless : E → Type 0 → Type 0) (failed : E) (store ledger : ℕ × ℕ) (result : Result T E) : Type 0 where
  pub later : AreLater store.0 store.1 ledger.0 ledger.1
  pub cause : IsErrOf result failed → ADiskFailed store.0 store.1 ledger.0 ledger.1
  pub quiet : OnOk result (AreQuiet store.0 store.1 ledger.0 ledger.1)
  pub quiet_fault : IfErr result (λ fault. Unless fault (AreQuiet store.0 store.1 ledger.0 ledger.1))
