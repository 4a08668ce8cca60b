-- When a connection fails by its link.
use Rattle.std.specs.Prelude.{◌≡◌, ◌≤◌, ℕ, Result, Ok, Err}
use Rattle.swh_outside.specs.Faults.{Rose}
use Rattle.swh_serve.specs.declared.fault.PutFault.{PutFault}
use Rattle.swh_serve.specs.declared.fault.PutFault.TheVariants as put
use Rattle.swh_serve.specs.declared.fault.ServeFault.{ServeFault}
use Rattle.swh_serve.specs.declared.fault.ServeFault.TheVariants.{Read, Write, Short, Memory}

-- the fault of a connection on which a reply was not put whole
abbrev pub serve_fault : PutFault → ServeFault
serve_fault put.Write = Write
serve_fault put.Memory = Memory

-- A count rose, or stands at its last value.
pub record Failed (before now : ℕ) : Type 0 where
  pub later : before ≤ now
  pub rose : Rose before now

-- A text is not put for the sink only where its count rose.
abbrev pub IsPutCause : {T : Type 0} → ℕ → ℕ → Result T PutFault → Type 0
IsPutCause before now (Ok x) = now ≡ before
IsPutCause before now (Err put.Write) = Failed before now
IsPutCause before now (Err put.Memory) = now ≡ before

-- A connection ends by its link, which could not be read or written, only where the count of the link rose; every
-- other end leaves it as it was.
abbrev pub IsServeCause : {T : Type 0} → ℕ → ℕ → Result T ServeFault → Type 0
IsServeCause before now (Ok x) = now ≡ before
IsServeCause before now (Err Read) = Failed before now
IsServeCause before now (Err Write) = Failed before now
IsServeCause before now (Err (Short held)) = now ≡ before
IsServeCause before now (Err Memory) = now ≡ before
