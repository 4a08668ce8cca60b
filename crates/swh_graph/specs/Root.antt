-- The directory at which a path from an artifact begins: a directory is its own root, a revision has its tree as root, a
-- release the root of its object, and a snapshot that of what its branch HEAD leads to.
use Rattle.std.specs.Prelude.{◌≡◌, ◌≢◌, ℕ, List, None, Contains, codes}
use Rattle.swh_base.specs.declared.kind.Kind.{Kind}
use Rattle.swh_base.specs.declared.kind.Kind.TheVariants.{Content, Directory, Revision as RevisionKind, Release as ReleaseKind, Snapshot}
use Rattle.swh_base.specs.declared.name.Name.{Name}
use Rattle.swh_base.specs.Reach.{Reaches}
use Rattle.swh_base.specs.Revision.{Revision}
use Rattle.swh_base.specs.Release.{Release}
use Rattle.swh_base.specs.Snapshot.{SnapshotBranch, ToObject, ToBranch}
use Rattle.swh_model.specs.Archive.{Bodies, body_of}
use Rattle.swh_graph.specs.Holding.{HoldsRevision, HoldsRelease, HoldsSnapshot}
use Rattle.swh_graph.specs.Path.{directory_name}

-- The branch of the first name is an alias of the second.
abbrev pub IsAlias : List SnapshotBranch → List ℕ → List ℕ → Type 0
IsAlias branches name other = Contains branches (record { name = name; target = ToBranch other })

-- The branch leads to the object, by itself or through aliases.
pub record BranchLeads (branches : List SnapshotBranch) (name : List ℕ) (object : Name) : Type 0 where
  pub last : List ℕ
  pub aliases : Reaches (IsAlias branches) name last
  pub target : Contains branches (record { name = last; target = ToObject object })

-- A revision is held under the first name, and the second is its directory's.
pub record HasTree (bodies : Bodies) (name tree : Name) : Type 0 where
  pub revision : Revision
  pub holds : HoldsRevision bodies name revision
  pub is : tree ≡ directory_name revision.directory

-- A release is held under the first name, and the second is its object's.
pub record HasObject (bodies : Bodies) (name object : Name) : Type 0 where
  pub release : Release
  pub holds : HoldsRelease bodies name release
  pub is : object ≡ release.object

-- A snapshot is held under the name, and its branch HEAD leads to the object.
pub record HasHead (bodies : Bodies) (name object : Name) : Type 0 where
  pub branches : List SnapshotBranch
  pub holds : HoldsSnapshot bodies name branches
  pub leads : BranchLeads branches (codes "HEAD") object

-- where a name of this kind leads on its way to a root; a content and a directory lead nowhere
abbrev pub LeadsOn : Kind → Bodies → Name → Name → Type 0
LeadsOn Content bodies name next = ⊥
LeadsOn Directory bodies name next = ⊥
LeadsOn RevisionKind bodies name next = HasTree bodies name next
LeadsOn ReleaseKind bodies name next = HasObject bodies name next
LeadsOn Snapshot bodies name next = HasHead bodies name next

-- The root of the first is that of the second.
pub record HasRootOf (bodies : Bodies) (name next : Name) : Type 0 where
  pub leads : LeadsOn name.kind bodies name next

-- The directory is the root.
pub record IsRoot (bodies : Bodies) (anchor root : Name) : Type 0 where
  pub leads : Reaches (HasRootOf bodies) anchor root
  pub folder : root.kind ≡ Directory

-- The way to the root leads to this name, which is to be read and is not held.
pub record IsRootGap (bodies : Bodies) (anchor name : Name) : Type 0 where
  pub leads : Reaches (HasRootOf bodies) anchor name
  pub no_content : name.kind ≢ Content
  pub no_folder : name.kind ≢ Directory
  pub missing : body_of bodies name ≡ None

-- There is no root, though all that is to be read is held.
pub record HasNoRoot (bodies : Bodies) (anchor : Name) : Type 0 where
  pub none : (root : Name) → IsRoot bodies anchor root → ⊥
  pub whole : (name : Name) → IsRootGap bodies anchor name → ⊥
