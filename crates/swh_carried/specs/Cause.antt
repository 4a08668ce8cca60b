-- When a name is not cooked, by what a count of faults does.
use Rattle.std.specs.Prelude.{◌≡◌, ◌≤◌, ℕ, Result, OnOk, IfErr}
use Rattle.swh_outside.specs.Faults.{Rose}
use Rattle.swh_carried.specs.declared.fault.CookFault.{CookFault}
use Rattle.swh_carried.specs.declared.fault.CookFault.TheVariants.{NotHeld, Uncarried, WriteFault, Memory}

-- When a name is not cooked: the count of faults rose just where the sink or the yard failed.
abbrev pub CookBreaks : ℕ → ℕ → CookFault → Type 0
CookBreaks before now (NotHeld name) = now ≡ before
CookBreaks before now (Uncarried name why) = now ≡ before
CookBreaks before now WriteFault = Rose before now
CookBreaks before now Memory = now ≡ before

-- the count of faults of a call that cooks
pub record HasCookCause {T : Type 0} (before now : ℕ) (result : Result T CookFault) : Type 0 where
  pub later : before ≤ now
  pub failed : IfErr result (CookBreaks before now)
  pub quiet : OnOk result (now ≡ before)
