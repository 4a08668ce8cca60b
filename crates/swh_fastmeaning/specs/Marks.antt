-- What marks lead to, as code holds it: those from 1 on in a row, and others by themselves.
use Rattle.std.specs.Prelude.{ℕ, suc, ◌<◌, List, [], ◌∷◌, ◌++◌, Option, Some, None}
use Rattle.std.specs.List.{AllByRecursion}
use Rattle.swh_fastmeaning.specs.declared.aims.Target.{Target}

-- what so many marks in a row lead to, from this one on
abbrev pub numbered : ℕ → List Target → List (ℕ × Target)
numbered from [] = []
numbered from (t ∷ ts) = (from, t) ∷ numbered (suc from) ts

-- what the mark 0 leads to, where it is set
abbrev pub first_mark : Option Target → List (ℕ × Target)
first_mark None = []
first_mark (Some t) = (0, t) ∷ []

-- all marks, with what they lead to
abbrev pub marks_in : Option Target → List Target → List (ℕ × Target) → List (ℕ × Target)
marks_in first row others = first_mark first ++ (numbered 1 row ++ others)

-- No mark is 0.
abbrev pub AreAboveZero : List (ℕ × Target) → Type 0
AreAboveZero = AllByRecursion (λ e. 0 < e.0)
