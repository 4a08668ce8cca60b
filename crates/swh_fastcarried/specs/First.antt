-- The first rule that a name breaks, and what it takes to tell.
use Rattle.std.specs.Prelude.{◌≡◌, Option, Some, None, List, Contains}
use Rattle.swh_base.specs.declared.kind.Kind.TheVariants.{Revision as RevisionKind, Release as ReleaseKind}
use Rattle.swh_base.specs.declared.name.Name.{Name}
use Rattle.swh_base.specs.Directory.{DirectoryEntry}
use Rattle.swh_base.specs.Revision.{Revision}
use Rattle.swh_base.specs.Snapshot.{SnapshotBranch, ToObject}
use Rattle.swh_model.specs.Archive.{Bodies}
use Rattle.swh_graph.specs.Holding.{HoldsRevision}
use Rattle.swh_graph.specs.Path.{directory_name}
use Rattle.swh_carried.specs.declared.fault.Why.{Why}
use Rattle.swh_carried.specs.Rules.{HasDirectoryEntry, IsDots}
use Rattle.swh_carried.specs.Uncarried.{BreaksFirst, BreaksNone, IsFirstToBreak}
use Rattle.swh_fastcarried.specs.Rules.{IsAtOwnBranch}

-- One of the entries is `.` or `..`.
pub record HaveDots (entries : List DirectoryEntry) : Type 0 where
  pub entry : DirectoryEntry
  pub there : Contains entries entry
  pub is : IsDots entry.name

-- The name has the property with one of these.
pub record IsOneOf {X : Type 0} (Is : X → Name → Type 0) (those : List X) (name : Name) : Type 0 where
  pub one : X
  pub there : Contains those one
  pub is : Is one name

-- The entry is a folder, and the directory is its.
abbrev pub IsFolderOf : DirectoryEntry → Name → Type 0
IsFolderOf entry name = (entry.mode ≡ 40000) × (name ≡ directory_name entry.id)

-- The directory is an entry of the one that is held under this name.
pub record IsFolderAt (bodies : Bodies) (parent name : Name) : Type 0 where
  pub entry : DirectoryEntry
  pub is_entry : HasDirectoryEntry bodies parent entry
  pub folder : IsFolderOf entry name

-- The directory is that of the revision that is held under this name.
pub record IsRootAt (bodies : Bodies) (commit name : Name) : Type 0 where
  pub kind : commit.kind ≡ RevisionKind
  pub revision : Revision
  pub holds : HoldsRevision bodies commit revision
  pub named : name ≡ directory_name revision.directory

-- The branch leads to the release, and is its own.
abbrev pub IsOwnTag : Bodies → SnapshotBranch → Name → Type 0
IsOwnTag bodies branch name = (name.kind ≡ ReleaseKind) × (branch.target ≡ ToObject name) × IsAtOwnBranch bodies branch.name name

-- the first rule that the name breaks, if it breaks one
abbrev pub IsFirstRule : (Name → Why → Type 0) → Name → Option Why → Type 0
IsFirstRule Breaks name None = BreaksNone Breaks name
IsFirstRule Breaks name (Some why) = BreaksFirst Breaks name why

-- the first of the names that breaks a rule, and the first rule that it breaks, if one breaks any
abbrev pub IsFirstFound : (Name → Why → Type 0) → List Name → Option (Name × Why) → Type 0
IsFirstFound Breaks order None = (n : Name) → Contains order n → BreaksNone Breaks n
IsFirstFound Breaks order (Some found) = IsFirstToBreak Breaks order found.0 found.1
