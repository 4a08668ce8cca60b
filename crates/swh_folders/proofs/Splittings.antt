-- A path cut at its last slash.
use Rattle.std.proofs.Common.{◌≡◌, ◌≢◌, ℕ, suc, ◌==◌, ◌<◌, ◌≤◌, ◌+◌, ◌-◌, Bool, true, false, cond, List, [], ◌∷◌, ◌++◌, length, take, drop, get_or, Contains, refl, sym, ap, subst, ◌∙◌, arith, add-one}
use Rattle.std.proofs.Math.Seq.{drop-cons}
use Rattle.std.proofs.lemmas.List.{get_or-drop, take-append-drop, length-drop}
use Rattle.std.specs.List.{onto_first}
use Rattle.swh_fastlex.specs.Path.{components}
use Rattle.swh_fastlex.proofs.Components.{components_none}
use Rattle.swh_forest.proofs.Components.{components-some}

onto-more : (c : ℕ) (ps qs : List (List ℕ)) → ps ≢ [] → onto_first c (ps ++ qs) ≡ onto_first c ps ++ qs
onto-more c [] qs ne = absurd (ne refl)
onto-more c (p ∷ ps) qs ne = refl

more_case : (b : Bool) (c : ℕ) (ps qs : List (List ℕ)) → ps ≢ [] → cond b ([] ∷ ps ++ qs) (onto_first c (ps ++ qs)) ≡ cond b ([] ∷ ps) (onto_first c ps) ++ qs
more_case true c ps qs ne = refl
more_case false c ps qs ne = onto-more c ps qs ne

-- what follows the last slash is the last component
pub components-last : (a b : List ℕ) → (Contains b 47 → ⊥) → components (a ++ 47 ∷ b) ≡ components a ++ b ∷ []
components-last [] b none = ap (λ (ps : List (List ℕ)). [] ∷ ps) (components_none b none)
components-last (c ∷ a) b none =
    ap (λ (ps : List (List ℕ)). cond (c == 47) ([] ∷ ps) (onto_first c ps)) (components-last a b none)
    ∙ more_case (c == 47) c (components a) (b ∷ []) (components-some a)

-- the path before a slash after which none comes, and the component after it
pub cut-last : (path : List ℕ) (k : ℕ) → k < length path → get_or path k 47 ≡ 47 → ((i : ℕ) → k + 1 ≤ i → i < length path → get_or path i 47 ≡ 47 → ⊥) → components path ≡ components (take k path) ++ drop (k + 1) path ∷ []
cut-last path k lt is none =
    let rest : drop k path ≡ 47 ∷ drop (k + 1) path = rw add-one (drop-cons path k 47 lt ∙ ap (λ (c : ℕ). c ∷ drop (suc k) path) is) in
    let whole : path ≡ take k path ++ 47 ∷ drop (k + 1) path = sym (take-append-drop k path) ∙ ap (λ (r : List ℕ). take k path ++ r) rest in
    ap components whole ∙ components-last (take k path) (drop (k + 1) path) (λ h.
    let within : h.0 < length path - (k + 1) = subst (λ (n : ℕ). h.0 < n) (length-drop (k + 1) path) h.1 in
    none (k + 1 + h.0) (omega arith) (omega (arith, within)) (sym (get_or-drop (k + 1) path h.0 47) ∙ h.2))
