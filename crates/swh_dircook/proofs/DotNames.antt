-- A name that is not plain is `.` or `..`.
use Rattle.std.proofs.Common.{◌≡◌, inl, inr, ℕ, Bool, true, false, List, [], ◌∷◌, refl}
use Rattle.std.specs.Str.{bytes_eq}
use Rattle.std.proofs.lemmas.Slice.Eq.{bytes_eq-Decides}
use Rattle.swh_carried.specs.Rules.{IsDots}
use Rattle.swh_dircook.specs.Names.{IsPlainName}

not_both : (b : Bool) → b ≡ false → b ≡ true → ⊥
not_both b e f = cc

dots_by : (name : List ℕ) (a b : Bool) → bytes_eq name (46 ∷ []) ≡ a → bytes_eq name (46 ∷ 46 ∷ []) ≡ b → (IsPlainName name → ⊥) → IsDots name
unfolding IsPlainName
dots_by name true b e f other = inl ((bytes_eq-Decides name (46 ∷ [])).0 e)
dots_by name false true e f other = inr ((bytes_eq-Decides name (46 ∷ 46 ∷ [])).0 f)
dots_by name false false e f other =
    absurd
    (other (
      λ same. not_both (bytes_eq name (46 ∷ [])) e ((bytes_eq-Decides name (46 ∷ [])).1 same),
      λ same. not_both (bytes_eq name (46 ∷ 46 ∷ [])) f ((bytes_eq-Decides name (46 ∷ 46 ∷ [])).1 same),
    ))

pub dots_of : (name : List ℕ) → (IsPlainName name → ⊥) → IsDots name
dots_of name other = dots_by name (bytes_eq name (46 ∷ [])) (bytes_eq name (46 ∷ 46 ∷ [])) refl refl other

pub no_dots : (name : List ℕ) → IsPlainName name → IsDots name → ⊥
unfolding IsPlainName
no_dots name plain (inl e) = plain.0 e
no_dots name plain (inr e) = plain.1 e
