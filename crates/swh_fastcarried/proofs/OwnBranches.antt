-- The branch of a release's own name.
use Rattle.std.proofs.Common.{◌≡◌, inl, inr, ℕ, ◌+◌, ◌<◌, Bool, Some, List, [], ◌∷◌, length, take, get_or, sym, ap, ◌∙◌, subst}
use Rattle.std.specs.Prelude.{◌↔◌, IsTrue, Contains}
use Rattle.std.proofs.lemmas.List.{take_more}
use Rattle.std.proofs.lemmas.List.Elements.{Contains-append_cases}
use Rattle.swh_base.specs.declared.name.Name.{Name}
use Rattle.swh_base.specs.Release.{Release, IsRelease}
use Rattle.swh_base.proofs.RevisionLemmas.{one_release}
use Rattle.swh_base.proofs.Elementary.{only}
use Rattle.swh_model.specs.Archive.{Bodies, body_of}
use Rattle.swh_graph.proofs.Lists.{same_some}
use Rattle.swh_fastcarried.specs.Rules.{tag_branch, IsAtOwnBranch}

-- what holds of each of the first, and of the next, holds of each of these
pub each_more : {X : Type 0} (P : X → Type 0) (xs : List X) (i : ℕ) (d : X) → i < length xs → ((x : X) → Contains (take i xs) x → P x) → P (get_or xs i d) → (x : X) → Contains (take (i + 1) xs) x → P x
each_more {X} P xs i d within all one x there =
    elim (Contains-append_cases (take i xs) (get_or xs i d ∷ []) x (subst (λ (l : List X). Contains l x) (take_more xs i d within) there)) [
      | inl was ↦ all x was
      | inr is ↦ subst P (only (get_or xs i d) x is) one
    ]

module _ (bodies : Bodies) (branch : List ℕ) (name : Name) (body : List ℕ) (held : body_of bodies name ≡ Some body) (release : Release) (is : IsRelease body release) where
  pub at_own : (result : Bool) → IsTrue result ↔ (branch ≡ tag_branch release.tag) → IsTrue result ↔ IsAtOwnBranch bodies branch name
  at_own result both = (
    λ holds. record { release = release; holds = record { body = body; held = held; is = is }; own = both.0 holds },
    λ at. both.1
        (at.own
        ∙ ap (λ (r : Release). tag_branch r.tag)
        (one_release body at.release release (subst (λ (b : List ℕ). IsRelease b at.release) (same_some at.holds.body body (sym at.holds.held ∙ held)) at.holds.is) is)),
  )
