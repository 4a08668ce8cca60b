-- What the first entry of a list that passes a test says.
use Rattle.std.specs.Prelude.{Bool, cond, List, [], ◌∷◌}

-- what f says of the first that passes, or else d
abbrev pub first_or : {X V : Type 0} → (X → Bool) → (X → V) → V → List X → V
first_or p f d [] = d
first_or p f d (x ∷ xs) = cond (p x) (f x) (first_or p f d xs)
