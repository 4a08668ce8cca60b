-- What is known of all that is reached from a root, and what a name breaks by it.
use Rattle.std.specs.Prelude.{◌≡◌, ◌↔◌, ℕ, Option, Some, None, List, [], Contains}
use Rattle.swh_base.specs.declared.kind.Kind.TheVariants.{Release as ReleaseKind, Snapshot as SnapshotKind}
use Rattle.swh_base.specs.declared.name.Name.{Name}
use Rattle.swh_base.specs.Directory.{DirectoryEntry}
use Rattle.swh_model.specs.Archive.{Bodies}
use Rattle.swh_carried.specs.declared.fault.Why.{Why}
use Rattle.swh_carried.specs.declared.fault.Why.TheVariants.{Cycle, Revision, Release, Empty, Dots, Text, Path, Branch, Tagless, Refs, Length}
use Rattle.swh_fastcarried.specs.declared.reached.Reached.{Reached}
use Rattle.swh_carried.specs.Ways.{HaveLong}
use Rattle.swh_fastcarried.specs.Rules.{StandsAtBranch}

-- All of it is as the archive has it.
pub record Knows (bodies : Bodies) (r : Reached) : Type 0 where
  pub tagged : r.root.kind ≡ SnapshotKind → (n : Name) → n.kind ≡ ReleaseKind → Contains r.tagged n ↔ StandsAtBranch bodies r.root n

-- The directory is empty, and one of the folders.
abbrev pub IsEmptyFolder : (Name → Type 0) → Name → List DirectoryEntry → Type 0
IsEmptyFolder IsFolder name entries = (entries ≡ []) × IsFolder name

-- A way of so many bytes leads to the directory, and one of its entries makes it too long.
abbrev pub IsLongOver : Option ℕ → List DirectoryEntry → Type 0
IsLongOver None entries = ⊥
IsLongOver (Some way) entries = HaveLong way entries

-- the first of the three rules of directories that is broken, where these say which are
abbrev pub IsFolderRule : Type 0 → Type 0 → Type 0 → Option Why → Type 0
IsFolderRule empty dots long None = (empty → ⊥) × (dots → ⊥) × (long → ⊥)
IsFolderRule empty dots long (Some Empty) = empty
IsFolderRule empty dots long (Some Dots) = (empty → ⊥) × dots
IsFolderRule empty dots long (Some Path) = (empty → ⊥) × (dots → ⊥) × long
IsFolderRule empty dots long (Some Cycle) = ⊥
IsFolderRule empty dots long (Some Revision) = ⊥
IsFolderRule empty dots long (Some Release) = ⊥
IsFolderRule empty dots long (Some Text) = ⊥
IsFolderRule empty dots long (Some Branch) = ⊥
IsFolderRule empty dots long (Some Tagless) = ⊥
IsFolderRule empty dots long (Some Refs) = ⊥
IsFolderRule empty dots long (Some Length) = ⊥
