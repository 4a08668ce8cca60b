-- What is held under a name, read as what it is.
use Rattle.std.specs.Prelude.{◌≡◌, ℕ, List, Some, None}
use Rattle.swh_base.specs.declared.name.Name.{Name}
use Rattle.swh_base.specs.Directory.{DirectoryEntry, IsDirectory}
use Rattle.swh_base.specs.Revision.{Revision, IsRevision}
use Rattle.swh_base.specs.Release.{Release, IsRelease}
use Rattle.swh_base.specs.Snapshot.{SnapshotBranch, IsSnapshot}
use Rattle.swh_model.specs.Archive.{Bodies, body_of}
use Rattle.swh_graph.specs.declared.fault.GraphFault.{GraphFault}
use Rattle.swh_graph.specs.declared.fault.GraphFault.TheVariants.{NotHeld, NoPath, Memory}

-- A directory of these entries is held under the name.
pub record HoldsDirectory (bodies : Bodies) (name : Name) (entries : List DirectoryEntry) : Type 0 where
  pub body : List ℕ
  pub held : body_of bodies name ≡ Some body
  pub is : IsDirectory body entries

-- A revision of these parts is held under the name.
pub record HoldsRevision (bodies : Bodies) (name : Name) (revision : Revision) : Type 0 where
  pub body : List ℕ
  pub held : body_of bodies name ≡ Some body
  pub is : IsRevision body revision

-- A release of these parts is held under the name.
pub record HoldsRelease (bodies : Bodies) (name : Name) (release : Release) : Type 0 where
  pub body : List ℕ
  pub held : body_of bodies name ≡ Some body
  pub is : IsRelease body release

-- A snapshot of these branches is held under the name.
pub record HoldsSnapshot (bodies : Bodies) (name : Name) (branches : List SnapshotBranch) : Type 0 where
  pub body : List ℕ
  pub held : body_of bodies name ≡ Some body
  pub is : IsSnapshot body branches

-- The fault is that nothing is held under the name. It says nothing where memory ran out.
abbrev pub IsNotHeld : Bodies → Name → GraphFault → Type 0
IsNotHeld bodies name (NotHeld missing) = (missing ≡ name) × (body_of bodies name ≡ None)
IsNotHeld bodies name (NoPath component) = ⊥
IsNotHeld bodies name Memory = Unit {0}
