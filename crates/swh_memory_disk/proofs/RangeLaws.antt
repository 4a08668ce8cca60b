-- Places in ranges.
use Rattle.std.proofs.Common.{⊎_elim, ℕ, zero, suc, ◌+◌, ◌-◌, ◌<◌, ◌≤◌, List, [], ◌∷◌, ◌++◌, length, get_or, reverse, subst, arith}
use Rattle.std.proofs.lemmas.List.{reverse-append}
use Rattle.swh_outside.specs.Disk.{IsOutside}

both_parts : (xs ys : List (ℕ × ℕ)) (k : ℕ) → IsOutside (xs ++ ys) k → IsOutside xs k × IsOutside ys k
both_parts [] ys k out = (tt, out)
both_parts (x ∷ xs) ys k out = let rest = both_parts xs ys k out.1 in ((out.0, rest.0), rest.1)

-- a place in one of the ranges is not outside them
pub not_outside : (ranges : List (ℕ × ℕ)) (i k : ℕ) (d : ℕ × ℕ) → i < length ranges → (get_or ranges i d).0 ≤ k → k - (get_or ranges i d).0 < (get_or ranges i d).1 → IsOutside (reverse ranges) k → ⊥
not_outside [] i k d lt from to out = absurd (omega arith)
not_outside (r ∷ ranges) zero k d lt from to out =
    let last = (both_parts (reverse ranges) (r ∷ []) k (subst (λ (rs : List (ℕ × ℕ)). IsOutside rs k) (reverse-append (r ∷ []) ranges) out)).1.0 in
    ⊎_elim (λ (before : k < r.0). omega arith) (λ (behind : r.0 + r.1 ≤ k). omega arith) last
not_outside (r ∷ ranges) (suc i) k d lt from to out = not_outside ranges i k d (omega arith) from to (both_parts (reverse ranges) (r ∷ []) k (subst (λ (rs : List (ℕ × ℕ)). IsOutside rs k) (reverse-append (r ∷ []) ranges) out)).0
