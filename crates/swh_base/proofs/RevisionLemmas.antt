-- A body is a revision, or a release, in one way at most.
use Rattle.std.specs.Prelude.{if◌then◌else◌}
use Rattle.std.proofs.Common.{◌≡◌, ◌==◌, get_or, ℕ, List, length, Contains, refl, sym, ap, ◌∙◌, codes}
use Rattle.swh_base.specs.declared.kind.Kind.{Kind}
use Rattle.swh_base.specs.declared.kind.Kind.TheVariants.{Content, Directory, Revision as RevisionKind, Release as ReleaseKind, Snapshot}
use Rattle.swh_base.specs.Kind.{word_of}
use Rattle.swh_base.specs.Revision.{Revision, IsRevision}
use Rattle.swh_base.specs.Release.{Release, IsRelease}
use Rattle.swh_base.proofs.Splits.{first_split, sized_split, absent}
use Rattle.swh_base.proofs.HexLines.{one_line, one_parents}

pub one_revision : (body : List ℕ) (r s : Revision) → IsRevision body r → IsRevision body s → r ≡ s
one_revision body r s hr hs =
    let first = one_line (codes "tree ") r.directory s.directory _ _ hr.directory hs.directory (sym hr.text ∙ hs.text) in
    let others = one_parents r.parents s.parents r.rest s.rest hr.parents hs.parents hr.no_more hs.no_more first.1 in
    let a = first.0 in
    let b = others.0 in
    let c = others.1 in
    (λ i. record { directory = a i; parents = b i; rest = c i })

pub no_feed : (kind : Kind) → Contains (word_of kind) 10 → ⊥
no_feed Content = absent 10 (codes "blob") refl
no_feed Directory = absent 10 (codes "tree") refl
no_feed RevisionKind = absent 10 (codes "commit") refl
no_feed ReleaseKind = absent 10 (codes "tag") refl
no_feed Snapshot = absent 10 (codes "snapshot") refl

-- the kinds have words of their own: length and first byte tell them apart
abbrev kind_from : List ℕ → Kind
kind_from word = if length word == 6 then RevisionKind else if length word == 3 then ReleaseKind else if length word == 8 then Snapshot else if get_or word 0 0 == 98 then Content else Directory

kind_from-word : (kind : Kind) → kind_from (word_of kind) ≡ kind
kind_from-word Content = refl
kind_from-word Directory = refl
kind_from-word RevisionKind = refl
kind_from-word ReleaseKind = refl
kind_from-word Snapshot = refl

one_word : (a b : Kind) → word_of a ≡ word_of b → a ≡ b
one_word a b e = sym (kind_from-word a) ∙ ap kind_from e ∙ kind_from-word b

pub one_release : (body : List ℕ) (r s : Release) → IsRelease body r → IsRelease body s → r ≡ s
one_release body r s hr hs =
    let first = one_line (codes "object ") r.object.id s.object.id _ _ hr.object hs.object (sym hr.text ∙ hs.text) in
    let behind = sized_split (codes "type ") (codes "type ") _ _ refl first.1 in
    let kinds = first_split 10 (word_of r.object.kind) (word_of s.object.kind) _ _ (no_feed r.object.kind) (no_feed s.object.kind) behind.1 in
    let next = sized_split (codes "tag ") (codes "tag ") _ _ refl kinds.1 in
    let tags = first_split 10 r.tag s.tag r.rest s.rest hr.one_line hs.one_line next.1 in
    let kind = one_word r.object.kind s.object.kind kinds.0 in
    let id = first.0 in
    let tag = tags.0 in
    let rest = tags.1 in
    (λ i. record { object = record { kind = kind i; id = id i }; tag = tag i; rest = rest i })
