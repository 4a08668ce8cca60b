-- All five manifests: what is a body of its kind, and which names it names.
use Rattle.std.specs.Prelude.{◌≡◌, ℕ, List, []}
use Rattle.swh_base.specs.declared.kind.Kind.{Kind}
use Rattle.swh_base.specs.declared.kind.Kind.TheVariants.{Content, Directory, Revision, Release, Snapshot}
use Rattle.swh_base.specs.declared.name.Name.{Name}
use Rattle.swh_base.specs.Directory.{AreDirectoryChildren}
use Rattle.swh_base.specs.Revision.{AreRevisionChildren}
use Rattle.swh_base.specs.Release.{AreReleaseChildren}
use Rattle.swh_base.specs.Snapshot.{AreSnapshotChildren}

-- A body of this kind names these, in this order. A content names nothing.
abbrev pub AreChildren : Kind → List ℕ → List Name → Type 0
AreChildren Content body names = names ≡ []
AreChildren Directory body names = AreDirectoryChildren body names
AreChildren Revision body names = AreRevisionChildren body names
AreChildren Release body names = AreReleaseChildren body names
AreChildren Snapshot body names = AreSnapshotChildren body names

-- The body is one of its kind.
abbrev pub IsWellFormed : Kind → List ℕ → Type 0
IsWellFormed kind body = (names : List Name) × AreChildren kind body names
