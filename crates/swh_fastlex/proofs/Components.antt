-- The components of a path, cut at its first slash.
use Rattle.std.proofs.Common.{rules, tests, ◌≡◌, ℕ, suc, ◌==◌, false, List, [], ◌∷◌, ◌++◌, Contains, refl, ap, ◌∙◌, arith}
use Rattle.std.specs.List.{onto_first}
use Rattle.std.proofs.lemmas.List.Splits.{slice_split-cons_no}
use Rattle.swh_fastlex.specs.Path.{components}

apart : (c s : ℕ) → (c ≡ s → ⊥) → (c == s) ≡ false
apart c s n = search (rules, tests)

pub components_none : (a : List ℕ) → (Contains a 47 → ⊥) → components a ≡ a ∷ []
components_none [] none = refl
components_none (c ∷ a) none =
    slice_split-cons_no (λ d. d == 47) c a (apart c 47 (λ e. none (0, omega arith, e)))
    ∙ ap (onto_first c) (components_none a (λ h. let l = h.1 in none (suc h.0, omega (arith, l), h.2)))

pub components_at : (a b : List ℕ) → (Contains a 47 → ⊥) → components (a ++ 47 ∷ b) ≡ a ∷ components b
components_at [] b none = refl
components_at (c ∷ a) b none =
    slice_split-cons_no (λ d. d == 47) c (a ++ 47 ∷ b) (apart c 47 (λ e. none (0, omega arith, e)))
    ∙ ap (onto_first c) (components_at a b (λ h. let l = h.1 in none (suc h.0, omega (arith, l), h.2)))

pub components_cut : (text a b : List ℕ) → (Contains a 47 → ⊥) → text ≡ a ++ 47 ∷ b → components text ≡ a ∷ components b
components_cut text a b none e = ap components e ∙ components_at a b none
