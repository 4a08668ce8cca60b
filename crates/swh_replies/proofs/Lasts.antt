-- The last status of a visit.
use Rattle.std.proofs.Common.{◌≡◌, ℕ, ◌-◌, ◌<◌, List, [], ◌∷◌, length, get_or, suc, Option, ap, ◌∙◌, arith}
use Rattle.swh_base.specs.declared.visit.Status.{Status}
use Rattle.swh_base.specs.Visit.{Statuses, last_mark}

last-more : (x y : Status × Option (List ℕ)) (ss : Statuses) (d : Status × Option (List ℕ)) → get_or (x ∷ y ∷ ss) (length (x ∷ y ∷ ss) - 1) d ≡ get_or (y ∷ ss) (length (y ∷ ss) - 1) d
last-more x y ss d = ap (λ (k : ℕ). get_or (x ∷ y ∷ ss) k d) (let e : length (x ∷ y ∷ ss) - 1 ≡ suc (length (y ∷ ss) - 1) = omega arith in e)

pub last-is : (ss : Statuses) (d : Status × Option (List ℕ)) → 0 < length ss → get_or ss (length ss - 1) d ≡ last_mark ss
last-is [] d h = absurd (omega (arith, h))
last-is (x ∷ []) d h = ap (λ (k : ℕ). get_or (x ∷ []) k d) (let e : length (x ∷ []) - 1 ≡ 0 = omega arith in e)
last-is (x ∷ y ∷ ss) d h = last-more x y ss d ∙ last-is (y ∷ ss) d (omega arith)
