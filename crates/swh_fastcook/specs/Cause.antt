-- When a text that is written is broken off.
use Rattle.std.specs.Prelude.{◌≡◌, ◌≤◌, ℕ, Result, OnOk, IfErr}
use Rattle.swh_outside.specs.Faults.{Rose}
use Rattle.swh_carried.specs.declared.fault.CookFault.{CookFault}
use Rattle.swh_carried.specs.declared.fault.CookFault.TheVariants.{NotHeld, Uncarried, WriteFault, Memory}

-- a count of faults rose where the sink failed, and else is as it was; nothing else breaks a text off but want of memory
abbrev pub Breaks : ℕ → ℕ → CookFault → Type 0
Breaks before now (NotHeld name) = ⊥
Breaks before now (Uncarried name why) = ⊥
Breaks before now WriteFault = Rose before now
Breaks before now Memory = now ≡ before

-- the count of faults of a call that writes
pub record HasWriteCause {T : Type 0} (before now : ℕ) (result : Result T CookFault) : Type 0 where
  pub later : before ≤ now
  pub failed : IfErr result (Breaks before now)
  pub quiet : OnOk result (now ≡ before)
