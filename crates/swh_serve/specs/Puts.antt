-- What stands on a sink behind a text that was put.
use Rattle.std.specs.Prelude.{◌≡◌, ℕ, Bool, List, ◌++◌, Result, Ok, Err}
use Rattle.swh_outside.specs.Sink.{TakesSome}
use Rattle.swh_serve.specs.declared.fault.PutFault.{PutFault}
use Rattle.swh_serve.specs.declared.fault.PutFault.TheVariants.{Write, Memory}

-- The text was put whole; where the sink failed, the first bytes of it; and where memory ran out, nothing.
abbrev pub IsTextPut : {T : Type 0} → List ℕ → List ℕ → List ℕ → Result T PutFault → Type 0
IsTextPut before text now (Ok x) = now ≡ before ++ text
IsTextPut before text now (Err Write) = TakesSome before text now
IsTextPut before text now (Err Memory) = now ≡ before

-- whether the connection is kept, or the fault by which a reply was not put
abbrev pub IsKept : {T : Type 0} → Result T PutFault → Bool → Result Bool PutFault → Type 0
IsKept (Ok x) keep kept = kept ≡ Ok keep
IsKept (Err fault) keep kept = kept ≡ Err fault
