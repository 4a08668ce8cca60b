-- Names with all that is reached from them.
use Rattle.std.specs.Prelude.{Option, List, Contains}
use Rattle.swh_base.specs.Reach.{IsHeldIn, IsChildIn}

-- Each of these names is held, and each child of one of them is among them.
pub record IsWhole {X : Type 0} (IsHeld : X → Type 0) (IsChild : X → X → Type 0) (names : List X) : Type 0 where
  pub held : (n : X) → Contains names n → IsHeld n
  pub kids : (n child : X) → Contains names n → IsChild n child → Contains names child

-- The same, where `children_of` says which names are held and what their children are.
abbrev pub IsWholeIn : {X : Type 0} → (X → Option (List X)) → List X → Type 0
IsWholeIn children_of = IsWhole (IsHeldIn children_of) (IsChildIn children_of)
