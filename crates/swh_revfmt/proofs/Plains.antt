-- What is no revision, or has another rest, is no plain one.
use Rattle.std.proofs.Common.{◌≡◌, ℕ, List, [], ◌∷◌, refl, ap, ◌∙◌, subst}
use Rattle.swh_base.specs.declared.kind.Kind.TheVariants.{Directory, Revision as RevisionKind, Release as ReleaseKind}
use Rattle.swh_base.specs.Revision.{Revision, IsRevision, revision_children}
use Rattle.swh_base.specs.Release.{Release, IsRelease}
use Rattle.swh_base.specs.Manifest.{IsWellFormed}
use Rattle.swh_base.proofs.RevisionLemmas.{one_revision, one_release}
use Rattle.swh_revfmt.specs.Plain.{RevisionRest, IsRevisionRest, PlainRevision, IsPlainRevision, ReleaseRest, IsReleaseRest, PlainRelease, IsPlainRelease, IsTagName}

pub no_revision : (body : List ℕ) → (IsWellFormed RevisionKind body → ⊥) → (p : PlainRevision) → IsPlainRevision body p → ⊥
no_revision body never p h =
    let revision : Revision = record { directory = p.directory; parents = p.parents; rest = h.bytes } in never (revision_children revision, record { revision = revision; is = h.revision; kids = refl })

pub other_rest : (body : List ℕ) (r : Revision) → IsRevision body r → ((rest : RevisionRest) → IsRevisionRest r.rest rest → ⊥) → (p : PlainRevision) → IsPlainRevision body p → ⊥
other_rest body r is never p h =
    let same = one_revision body (record { directory = p.directory; parents = p.parents; rest = h.bytes }) r h.revision is in
    never p.rest (subst (λ (t : List ℕ). IsRevisionRest t p.rest) (ap (λ (x : Revision). x.rest) same) h.rest)

pub no_release : (body : List ℕ) → (IsWellFormed ReleaseKind body → ⊥) → (p : PlainRelease) → IsPlainRelease body p → ⊥
no_release body never p h =
    let release : Release = record { object = p.object; tag = p.tag; rest = h.bytes } in never (release.object ∷ [], record { release = release; is = h.release; kids = refl })

-- the release that a plain one is
pub same_release : (body : List ℕ) (r : Release) → IsRelease body r → (p : PlainRelease) (h : IsPlainRelease body p) → let found : Release = record { object = p.object; tag = p.tag; rest = h.bytes } in found ≡ r
same_release body r is p h = one_release body (record { object = p.object; tag = p.tag; rest = h.bytes }) r h.release is

pub other_release_rest : (body : List ℕ) (r : Release) → IsRelease body r → ((rest : ReleaseRest) → IsReleaseRest r.rest rest → ⊥) → (p : PlainRelease) → IsPlainRelease body p → ⊥
other_release_rest body r is never p h = never p.rest (subst (λ (t : List ℕ). IsReleaseRest t p.rest) (ap (λ (x : Release). x.rest) (same_release body r is p h)) h.rest)

pub of_directory : (body : List ℕ) (r : Release) → IsRelease body r → r.object.kind ≡ Directory → (p : PlainRelease) → IsPlainRelease body p → ⊥
of_directory body r is e p h = h.no_directory (ap (λ (x : Release). x.object.kind) (same_release body r is p h) ∙ e)

pub other_tag : (body : List ℕ) (r : Release) → IsRelease body r → (IsTagName r.tag → ⊥) → (p : PlainRelease) → IsPlainRelease body p → ⊥
other_tag body r is never p h = never (subst IsTagName (ap (λ (x : Release). x.tag) (same_release body r is p h)) h.tag)
