-- Revisions and releases that are not plain.
use Rattle.std.proofs.Common.{◌≡◌, ℕ, Bool, true, false, not, Option, Some, None, List, refl, sym, ◌∙◌, subst}
use Rattle.std.specs.Prelude.{◌↔◌, IsTrue, IfSome, IfNone}
use Rattle.std.specs.Option.{is_some}
use Rattle.swh_base.specs.declared.kind.Kind.{Kind}
use Rattle.swh_base.specs.declared.kind.Kind.TheVariants.{Revision as RevisionKind, Release as ReleaseKind}
use Rattle.swh_base.specs.declared.name.Name.{Name}
use Rattle.swh_model.specs.Archive.{Bodies, body_of}
use Rattle.swh_graph.proofs.Lists.{same_some}
use Rattle.swh_revfmt.specs.declared.plain.PlainRev.{PlainRev}
use Rattle.swh_revfmt.specs.declared.plain.PlainRel.{PlainRel}
use Rattle.swh_revfmt.specs.Plain.{PlainRevision, IsPlainRevision, PlainRelease, IsPlainRelease}
use Rattle.swh_revfmt.specs.PlainReading.{plain_revision, plain_release}
use Rattle.swh_fastcarried.specs.Rules.{IsOddRevision, IsOddRelease, IsOddKind, IsOddObject}

none_so : (b : Bool) → false ≡ not b → IsTrue b
none_so true e = refl
none_so false e = let f : true ≡ false = sym e in cc

some_not : (b : Bool) → true ≡ not b → IsTrue b → ⊥
some_not true e holds = let f : true ≡ false = e in cc
some_not false e holds = let f : true ≡ false = sym holds in cc

module _ (bodies : Bodies) (name : Name) where
  pub odd_revision : name.kind ≡ RevisionKind → (body : List ℕ) → body_of bodies name ≡ Some body → (found : Option PlainRev) (result : Bool) → is_some found ≡ not result → IfSome found (λ p. IsPlainRevision body (plain_revision p))
      → IfNone found ((p : PlainRevision) → IsPlainRevision body p → ⊥) → IsTrue result ↔ IsOddRevision bodies name
  odd_revision kind body held None result is some none = (λ _. record { kind = kind; body = body; held = held; odd = none }, λ _. none_so result is)
  odd_revision kind body held (Some p) result is some none = (
    λ holds. absurd (some_not result is holds),
    λ odd. absurd (odd.odd (plain_revision p) (subst (λ (b : List ℕ). IsPlainRevision b (plain_revision p)) (same_some body odd.body (sym held ∙ odd.held)) some)),
  )

  pub odd_release : name.kind ≡ ReleaseKind → (body : List ℕ) → body_of bodies name ≡ Some body → (found : Option PlainRel) (result : Bool) → is_some found ≡ not result → IfSome found (λ p. IsPlainRelease body (plain_release p))
      → IfNone found ((p : PlainRelease) → IsPlainRelease body p → ⊥) → IsTrue result ↔ IsOddRelease bodies name
  odd_release kind body held None result is some none = (λ _. record { kind = kind; body = body; held = held; odd = none }, λ _. none_so result is)
  odd_release kind body held (Some p) result is some none = (
    λ holds. absurd (some_not result is holds),
    λ odd. absurd (odd.odd (plain_release p) (subst (λ (b : List ℕ). IsPlainRelease b (plain_release p)) (same_some body odd.body (sym held ∙ odd.held)) some)),
  )

  -- a revision, or a release, that is not plain is an object that a stream cannot carry
  pub of_revision : IsOddRevision bodies name → IsOddObject bodies name
  of_revision odd = subst (λ (k : Kind). IsOddKind bodies name k) (sym odd.kind) odd

  pub of_release : IsOddRelease bodies name → IsOddObject bodies name
  of_release odd = subst (λ (k : Kind). IsOddKind bodies name k) (sym odd.kind) odd
