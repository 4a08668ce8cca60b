-- A text and its length, as far as a number goes.
use Rattle.std.specs.Prelude.{ℕ, List, length}
use Rattle.swh_pathsums.specs.Lengths.{IsUpTo}

-- There is a text of this kind, and it has so many bytes, or both are more than 2 to the 32nd.
pub record HasLengthOf (IsText : List ℕ → Type 0) (found : ℕ) : Type 0 where
  pub text : List ℕ
  pub is : IsText text
  pub long : IsUpTo (length text) found
