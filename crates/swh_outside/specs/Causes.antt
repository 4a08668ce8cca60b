-- When a call that may also want memory may fail.
use Rattle.std.specs.Prelude.{◌≡◌, ◌≤◌, ℕ, Result, IsErrOf, OnOk}
use Rattle.swh_outside.specs.Faults.{Rose}
use Rattle.swh_outside.specs.declared.fault.OutFault.{OutFault}
use Rattle.swh_outside.specs.declared.fault.OutFault.TheVariants.{Failed, Memory}

-- it answers `Failed` only where the count rose, and leaves it as it was where it does not
pub record HasOutCause {T : Type 0} (before now : ℕ) (result : Result T OutFault) : Type 0 where
  pub later : before ≤ now
  pub failed : IsErrOf result Failed → Rose before now
  pub quiet : OnOk result (now ≡ before)
  pub memory : IsErrOf result Memory → now ≡ before
