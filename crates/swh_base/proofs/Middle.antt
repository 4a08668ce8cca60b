-- A byte between two pieces is one of the bytes.
use Rattle.std.proofs.Common.{ℕ, suc, List, [], ◌∷◌, ◌++◌, Contains, refl, arith}

pub in_middle : (a x : List ℕ) (s : ℕ) → Contains (a ++ s ∷ x) s
in_middle [] x s = (0, omega arith, refl)
in_middle (c ∷ a) x s = let h = in_middle a x s in let l = h.1 in (suc h.0, omega (arith, l), h.2)
