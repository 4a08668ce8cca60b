-- The branches that a stream loads (git-fast-import(1), tag and reset), and when they are more than may be loaded.
use Rattle.std.specs.Prelude.{◌≡◌, ◌⊎◌, ℕ, ◌<◌, not, List, [], ◌∷◌, length, map, filter, codes}
use Rattle.std.specs.BTreeMap.{insert_entry, is_at}
use Rattle.std.specs.Borrow.{Bor}
use Rattle.std.specs.Cmp.Lexicographic.{slice_cmp}
use Rattle.std.specs.Ordering.{nat_cmp}
use Rattle.swh_base.specs.declared.kind.Kind.{Kind}
use Rattle.swh_base.specs.declared.kind.Kind.TheVariants.{Content, Directory, Revision as RevisionKind, Release as ReleaseKind, Snapshot}
use Rattle.swh_base.specs.declared.name.Name.{Name}
use Rattle.swh_base.specs.Limits.{body_limit}
use Rattle.swh_base.specs.Release.{Release}
use Rattle.swh_base.specs.Snapshot.{SnapshotBranch, ToObject, snapshot_text}
use Rattle.swh_model.specs.Archive.{Bodies}
use Rattle.swh_graph.specs.Holding.{HoldsRelease, HoldsSnapshot}
use Rattle.swh_fastcarried.specs.Rules.{tag_branch}

-- the name of the release with this id
abbrev pub release_name : List ℕ → Name
release_name id = record { kind = ReleaseKind; id = id }

-- a finite map from the names of tags to the ids of their releases
abbrev pub Tags : Type 0
Tags = List (List ℕ × List ℕ)

module _ (bodies : Bodies) where
  -- A name of this kind comes: a release sets the tag of its name, in place of one that was there.
  abbrev pub SetsTag : Name → Kind → Tags → Tags → Type 0
  SetsTag name Content old new = new ≡ old
  SetsTag name Directory old new = new ≡ old
  SetsTag name RevisionKind old new = new ≡ old
  SetsTag name ReleaseKind old new = (release : Release) × HoldsRelease bodies name release × (new ≡ insert_entry (slice_cmp nat_cmp) old release.tag name.id)
  SetsTag name Snapshot old new = new ≡ old

  -- Names come, one after another.
  abbrev pub SetTags : List Name → Tags → Tags → Type 0
  SetTags [] old new = new ≡ old
  SetTags (n ∷ ns) old new = (middle : Tags) × SetsTag n n.kind old middle × SetTags ns middle new

-- the branch of a tag
abbrev pub branch_of_tag : List ℕ × List ℕ → SnapshotBranch
branch_of_tag e = record { name = tag_branch e.0; target = ToObject (release_name e.1) }

-- the branch of a revision
abbrev pub main_branch : Name → SnapshotBranch
main_branch root = record { name = codes "refs/heads/main"; target = ToObject root }

-- those of the branches that are not `HEAD`
abbrev pub without_head : List SnapshotBranch → List SnapshotBranch
without_head branches = filter (λ b. not (is_at (slice_cmp nat_cmp (codes "HEAD")) b.name)) branches

-- More than 65,536 branches without `HEAD`, or a longer body than a snapshot may have.
abbrev pub AreMany : List SnapshotBranch → Type 0
AreMany branches = (65536 < length (without_head branches)) ⊎ (body_limit < length (snapshot_text branches))

module _ (bodies : Bodies) (order : List Name) (root : Name) where
  -- the branches that the stream of a root of this kind loads: a snapshot's are its own, a revision's is one, and a release's
  -- are those of the tags that are made
  abbrev pub AreLoadedOf : Kind → List SnapshotBranch → Type 0
  AreLoadedOf Content branches = branches ≡ []
  AreLoadedOf Directory branches = branches ≡ []
  AreLoadedOf RevisionKind branches = branches ≡ main_branch root ∷ []
  AreLoadedOf ReleaseKind branches = (tags : Tags) × SetTags bodies order [] tags × (branches ≡ map branch_of_tag tags)
  AreLoadedOf Snapshot branches = HoldsSnapshot bodies root branches

  -- The stream loads more than may be loaded.
  pub record LoadsMany : Type 0 where
    pub branches : List SnapshotBranch
    pub loaded : AreLoadedOf root.kind branches
    pub many : AreMany branches

-- tags whose names stand in bodies
abbrev pub tags_in : List (Bor (List ℕ) × List ℕ) → Tags
tags_in entries = map (λ e. (e.0.now, e.1)) entries
