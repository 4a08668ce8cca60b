-- How opening ended.
use Rattle.swh_outside.specs.declared.fault.Opened.{Opened}
use Rattle.swh_outside.specs.declared.fault.Opened.TheVariants.{Found, NotFound, Failed, Memory}

-- What was found has P, where something was.
abbrev pub IfFound : {T : Type 0} → Opened T → (T → Type 0) → Type 0
IfFound (Found x) P = P x
IfFound NotFound P = Unit {0}
IfFound Failed P = Unit {0}
IfFound Memory P = Unit {0}

-- P, unless it failed
abbrev pub UnlessFailed : {T : Type 0} → Opened T → Type 0 → Type 0
UnlessFailed (Found x) P = P
UnlessFailed NotFound P = P
UnlessFailed Failed P = Unit {0}
UnlessFailed Memory P = P

-- P, unless memory is wanting
abbrev pub UnlessMemory : {T : Type 0} → Opened T → Type 0 → Type 0
UnlessMemory (Found x) P = P
UnlessMemory NotFound P = P
UnlessMemory Failed P = P
UnlessMemory Memory P = Unit {0}

-- Nothing stands at the path.
abbrev pub IsNotFound : {T : Type 0} → Opened T → Type 0
IsNotFound (Found x) = ⊥
IsNotFound NotFound = Unit {0}
IsNotFound Failed = ⊥
IsNotFound Memory = ⊥

-- The outside failed.
abbrev pub IsFailed : {T : Type 0} → Opened T → Type 0
IsFailed (Found x) = ⊥
IsFailed NotFound = ⊥
IsFailed Failed = Unit {0}
IsFailed Memory = ⊥
