-- What doors keep of a link that was given back.
use Rattle.std.specs.Prelude.{ℕ, Bool, List}

-- the bytes that it gave and took, whether its end was met, and its count of faults
pub record LinkNote : Type 0 where
  pub given : List ℕ
  pub ended : Bool
  pub taken : List ℕ
  pub faults : ℕ
