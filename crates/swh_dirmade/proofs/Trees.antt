-- Trees of numbers, in which each but the first has a name in a lower one.
use Rattle.std.proofs.Common.{◌≡◌, inl, inr, ℕ, zero, suc, ◌<◌, List, [], ◌∷◌, ◌++◌, refl, sym, ◌∙◌, arith}
use Rattle.swh_dirmade.specs.Paths.{child}
use Rattle.swh_dirmade.proofs.Paths.{Plain, not_plain, child_injective, child_some, cut_above}

-- The numbers below this one have paths, and each but the first has a name in the one above it.
pub record IsTree (count : ℕ) (path : ℕ → List ℕ) (above : ℕ → ℕ) (name : ℕ → List ℕ) : Type 0 where
  pub first : path 0 ≡ []
  pub step : (n : ℕ) → 0 < n → n < count → path n ≡ child (path (above n)) (name n)
  pub down : (n : ℕ) → 0 < n → n < count → above n < n
  pub some : (n : ℕ) → 0 < n → n < count → name n ≡ [] → ⊥
  pub plain : (n : ℕ) → 0 < n → n < count → Plain (name n)
  pub once : (n m : ℕ) → 0 < n → n < count → 0 < m → m < count → above n ≡ above m → name n ≡ name m → n ≡ m

module _ (count : ℕ) (path : ℕ → List ℕ) (above : ℕ → ℕ) (name : ℕ → List ℕ) (tree : IsTree count path above name) where
  not_first : (n : ℕ) → 0 < n → n < count → path n ≡ [] → ⊥
  not_first n behind within e = child_some (path (above n)) (name n) (tree.some n behind within) (sym (tree.step n behind within) ∙ e)

  unique_below : (k n m : ℕ) → n < k → n < count → m < count → path n ≡ path m → n ≡ m
  unique_below zero n m lt nin min e = absurd (omega (arith, lt))
  unique_below (suc k) zero zero lt nin min e = refl
  unique_below (suc k) zero (suc m) lt nin min e = absurd (not_first (suc m) (omega arith) min (sym e ∙ tree.first))
  unique_below (suc k) (suc n) zero lt nin min e = absurd (not_first (suc n) (omega arith) nin (e ∙ tree.first))
  unique_below (suc k) (suc n) (suc m) lt nin min e =
      let sn : 0 < suc n = omega arith in
      let sm : 0 < suc m = omega arith in
      let both = child_injective (path (above (suc n))) (path (above (suc m))) (name (suc n)) (name (suc m)) (tree.plain (suc n) sn nin) (tree.plain (suc m) sm min) (sym (tree.step (suc n) sn nin) ∙ e ∙ tree.step (suc m) sm min) in
      let dn = tree.down (suc n) sn nin in
      let dm = tree.down (suc m) sm min in
      tree.once (suc n) (suc m) sn nin sm min (unique_below k (above (suc n)) (above (suc m)) (omega (arith, dn, lt)) (omega (arith, dn, nin)) (omega (arith, dm, min)) both.0) both.1

  -- no two have one path
  pub unique : (n m : ℕ) → n < count → m < count → path n ≡ path m → n ≡ m
  unique n m nin min e = unique_below (suc n) n m (omega arith) nin min e

  -- a name in a folder is that of one number
  pub parent : (n a : ℕ) (own : List ℕ) → n < count → a < count → Plain own → (own ≡ [] → ⊥) → path n ≡ child (path a) own → (0 < n) × ((above n ≡ a) × (name n ≡ own))
  parent zero a own nin ain plain some e = absurd (child_some (path a) own some (sym e ∙ tree.first))
  parent (suc n) a own nin ain plain some e =
      let sn : 0 < suc n = omega arith in
      let both = child_injective (path (above (suc n))) (path a) (name (suc n)) own (tree.plain (suc n) sn nin) plain (sym (tree.step (suc n) sn nin) ∙ e) in
      let dn = tree.down (suc n) sn nin in
      (sn, (unique (above (suc n)) a (omega (arith, dn, nin)) ain both.0, both.1))

  ancestor_below : (k n : ℕ) (p rest : List ℕ) → n < k → n < count → path n ≡ p ++ 47 ∷ rest → (m : ℕ) × (m < count) × (path m ≡ p)
  ancestor_below zero n p rest lt within e = absurd (omega (arith, lt))
  ancestor_below (suc k) zero p rest lt within e = absurd (not_plain [] p rest (sym tree.first ∙ e) (λ h. let l = h.1 in omega (arith, l)))
  ancestor_below (suc k) (suc n) p rest lt within e =
      let sn : 0 < suc n = omega arith in
      let dn = tree.down (suc n) sn within in
      let a = above (suc n) in
      elim (cut_above (path a) (name (suc n)) p rest (tree.plain (suc n) sn within) (sym (tree.step (suc n) sn within) ∙ e)) [
        | inl same ↦ (a, omega (arith, dn, within), same)
        | inr h ↦ ancestor_below k a p h.0 (omega (arith, dn, lt)) (omega (arith, dn, within)) h.1
      ]

  -- each folder on the way to what stands there stands there
  pub ancestor : (n : ℕ) (p rest : List ℕ) → n < count → path n ≡ p ++ 47 ∷ rest → (m : ℕ) × (m < count) × (path m ≡ p)
  ancestor n p rest within e = ancestor_below (suc n) n p rest (omega arith) within e
