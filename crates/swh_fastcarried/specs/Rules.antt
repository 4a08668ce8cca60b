-- What a stream (git-fast-import(1)) cannot carry of all that is reached from a root.
use Rattle.std.specs.Prelude.{◌≡◌, ◌≢◌, ◌⊎◌, ℕ, Some, List, [], ◌++◌, Contains, codes}
use Rattle.swh_base.specs.declared.kind.Kind.{Kind}
use Rattle.swh_base.specs.declared.kind.Kind.TheVariants.{Content as ContentKind, Directory as DirectoryKind, Revision as RevisionKind, Release as ReleaseKind, Snapshot as SnapshotKind}
use Rattle.swh_base.specs.declared.name.Name.{Name}
use Rattle.swh_base.specs.Directory.{DirectoryEntry}
use Rattle.swh_base.specs.Revision.{Revision}
use Rattle.swh_base.specs.Release.{Release}
use Rattle.swh_base.specs.Snapshot.{SnapshotBranch, BranchTarget, ToObject, ToBranch, ToNothing}
use Rattle.swh_base.specs.Text.{IsRef}
use Rattle.swh_model.specs.Archive.{Bodies, body_of}
use Rattle.swh_revfmt.specs.Plain.{PlainRevision, IsPlainRevision, PlainRelease, IsPlainRelease}
use Rattle.swh_graph.specs.Holding.{HoldsDirectory, HoldsRevision, HoldsRelease, HoldsSnapshot}
use Rattle.swh_graph.specs.Path.{directory_name}
use Rattle.swh_carried.specs.declared.fault.Why.{Why}
use Rattle.swh_carried.specs.declared.fault.Why.TheVariants.{Cycle, Revision as OddRevision, Release as OddRelease, Empty, Dots, Text, Path, Branch, Tagless, Refs, Length}
use Rattle.swh_carried.specs.Rules.{HasDirectoryEntry, HasDots, HasLongPath}

-- the branch of a release of this name
abbrev pub tag_branch : List ℕ → List ℕ
tag_branch tag = codes "refs/tags/" ++ tag

module _ (bodies : Bodies) where
  -- A revision is held under the name that is not plain.
  pub record IsOddRevision (name : Name) : Type 0 where
    pub kind : name.kind ≡ RevisionKind
    pub body : List ℕ
    pub held : body_of bodies name ≡ Some body
    pub odd : (plain : PlainRevision) → IsPlainRevision body plain → ⊥

  -- A release is held under the name that is not plain.
  pub record IsOddRelease (name : Name) : Type 0 where
    pub kind : name.kind ≡ ReleaseKind
    pub body : List ℕ
    pub held : body_of bodies name ≡ Some body
    pub odd : (plain : PlainRelease) → IsPlainRelease body plain → ⊥

  -- What is held under the name is a revision or a release that is not plain.
  abbrev pub IsOddKind : Name → Kind → Type 0
  IsOddKind name ContentKind = ⊥
  IsOddKind name DirectoryKind = ⊥
  IsOddKind name RevisionKind = IsOddRevision name
  IsOddKind name ReleaseKind = IsOddRelease name
  IsOddKind name SnapshotKind = ⊥

  -- the same, by the kind of the name itself
  abbrev pub IsOddObject : Name → Type 0
  IsOddObject name = IsOddKind name name.kind

  -- The release of this name is held, and the branch is its own.
  pub record IsAtOwnBranch (branch : List ℕ) (name : Name) : Type 0 where
    pub release : Release
    pub holds : HoldsRelease bodies name release
    pub own : branch ≡ tag_branch release.tag

  -- A stream carries a branch to an object of this kind: a revision at a ref, and a release at its own branch.
  abbrev pub IsCarriedObject : List ℕ → Name → Kind → Type 0
  IsCarriedObject branch name ContentKind = ⊥
  IsCarriedObject branch name DirectoryKind = ⊥
  IsCarriedObject branch name RevisionKind = IsRef branch
  IsCarriedObject branch name ReleaseKind = IsAtOwnBranch branch name
  IsCarriedObject branch name SnapshotKind = ⊥

  -- the same of any target: the head may be another ref
  abbrev pub IsCarriedTarget : List ℕ → BranchTarget → Type 0
  IsCarriedTarget branch (ToObject n) = IsCarriedObject branch n n.kind
  IsCarriedTarget branch (ToBranch other) = (branch ≡ codes "HEAD") × IsRef other × (other ≢ codes "HEAD")
  IsCarriedTarget branch ToNothing = ⊥

  -- One of the branches is one that a stream cannot carry.
  pub record HaveOddBranch (branches : List SnapshotBranch) : Type 0 where
    pub branch : SnapshotBranch
    pub there : Contains branches branch
    pub odd : IsCarriedTarget branch.name branch.target → ⊥

module _ (bodies : Bodies) (order : List Name) where
  -- The directory is empty, and an entry of one of these names.
  pub record IsEmptyEntry (name : Name) : Type 0 where
    pub kind : name.kind ≡ DirectoryKind
    pub empty : HoldsDirectory bodies name []
    pub parent : Name
    pub there : Contains order parent
    pub entry : DirectoryEntry
    pub is_entry : HasDirectoryEntry bodies parent entry
    pub folder : entry.mode ≡ 40000
    pub named : name ≡ directory_name entry.id

  -- The directory is that of a revision that is one of these names.
  pub record IsRevisionRoot (directory : Name) : Type 0 where
    pub commit : Name
    pub there : Contains order commit
    pub kind : commit.kind ≡ RevisionKind
    pub revision : Revision
    pub holds : HoldsRevision bodies commit revision
    pub named : directory ≡ directory_name revision.directory

module _ (bodies : Bodies) (root : Name) where
  -- The snapshot has a branch that a stream cannot carry.
  pub record HasOddBranch (name : Name) : Type 0 where
    pub branches : List SnapshotBranch
    pub holds : HoldsSnapshot bodies name branches
    pub odd : HaveOddBranch bodies branches

  -- The release stands at its own branch of the root.
  pub record StandsAtBranch (name : Name) : Type 0 where
    pub branches : List SnapshotBranch
    pub holds : HoldsSnapshot bodies root branches
    pub branch : SnapshotBranch
    pub there : Contains branches branch
    pub target : branch.target ≡ ToObject name
    pub own : IsAtOwnBranch bodies branch.name name

  -- which of a stream's rules the name breaks, but for the last two, which are of the text and what it loads
  abbrev pub BreaksIn : List Name → Type 0 → Type 0 → Name → Why → Type 0
  BreaksIn order many long name Cycle = ⊥
  BreaksIn order many long name OddRevision = IsOddRevision bodies name
  BreaksIn order many long name OddRelease = IsOddRelease bodies name
  BreaksIn order many long name Empty = IsEmptyEntry bodies order name
  BreaksIn order many long name Dots = HasDots bodies name
  BreaksIn order many long name Text = ⊥
  BreaksIn order many long name Path = HasLongPath bodies (IsRevisionRoot bodies order) name
  BreaksIn order many long name Branch = (name.kind ≡ SnapshotKind) × ((name ≢ root) ⊎ HasOddBranch name)
  BreaksIn order many long name Tagless = (root.kind ≡ SnapshotKind) × (name.kind ≡ ReleaseKind) × (StandsAtBranch name → ⊥)
  BreaksIn order many long name Refs = (name ≡ root) × many
  BreaksIn order many long name Length = (name ≡ root) × long
