-- What follows from what a call says at its outcome.
use Rattle.std.proofs.Common.{Result, Ok, Err, OnOk}

pub ok_then : {T E : Type 0} (result : Result T E) (P Q : Type 0) → OnOk result P → (P → Q) → OnOk result Q
ok_then (Ok x) P Q p f = f p
ok_then (Err e) P Q p f = tt
