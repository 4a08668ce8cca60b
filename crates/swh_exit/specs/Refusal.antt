-- A line that tells a refusal.
use Rattle.std.specs.Prelude.{ℕ, List, ◌++◌, ◌∷◌, [], codes}

-- the line of a refusal: `swharc: `, the text and an LF
abbrev pub refusal : List ℕ → List ℕ
refusal text = codes "swharc: " ++ (text ++ 10 ∷ [])
