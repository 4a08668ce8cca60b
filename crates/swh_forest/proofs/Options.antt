-- Facts on options.
use Rattle.std.proofs.Common.{◌≡◌, Option, Some, None, IfNone, refl}

-- what holds where there is none
pub none-of : {A P : Type 0} (r : Option A) → ((x : A) → r ≡ Some x → ⊥) → IfNone r P → P
none-of None h p = p
none-of (Some x) h p = absurd (h x refl)
