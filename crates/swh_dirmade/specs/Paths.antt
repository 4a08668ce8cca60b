-- Paths of names in folders.
use Rattle.std.specs.Prelude.{ℕ, List, [], ◌∷◌, ◌++◌}

-- the path of a name in the folder at a path
abbrev pub child : List ℕ → List ℕ → List ℕ
child [] name = name
child (c ∷ dir) name = (c ∷ dir) ++ 47 ∷ name
