-- Lists one behind another, and where each of them begins and ends.
use Rattle.std.specs.Prelude.{ℕ, zero, suc, ◌+◌, List, [], ◌∷◌, ◌++◌, length, slice_index}

-- the lists one behind another
abbrev pub joined : {T : Type 0} → List (List T) → List T
joined [] = []
joined (l ∷ ls) = l ++ joined ls

-- where each list ends, where so many rows stand before the first
abbrev pub ends_from : {T : Type 0} → ℕ → List (List T) → List ℕ
ends_from start [] = []
ends_from start (l ∷ ls) = (start + length l) ∷ ends_from (start + length l) ls

-- where the list with this number begins, where lists end there: where the one before it ends
abbrev pub start_in : List ℕ → ℕ → ℕ
start_in ends zero = 0
start_in ends (suc number) = slice_index ends number
