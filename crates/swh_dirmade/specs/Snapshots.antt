-- The snapshot of a folder (SWHID v1.2, core identifiers, snapshots): its one branch is `HEAD`, to the folder's directory.
use Rattle.std.specs.Prelude.{◌≡◌, ℕ, List, [], ◌∷◌, codes}
use Rattle.swh_base.specs.declared.kind.Kind.{Kind}
use Rattle.swh_base.specs.declared.kind.Kind.TheVariants.{Snapshot}
use Rattle.swh_base.specs.declared.entry.Entry.{Entry}
use Rattle.swh_base.specs.Snapshot.{SnapshotBranch, IsSnapshot}
use Rattle.swh_base.specs.Snapshot.BranchTarget.{ToObject}
use Rattle.swh_dedup.specs.Making.{made_from, object_of}
use Rattle.swh_dirmade.specs.Giving.{GivesOne}
use Rattle.swh_dirmade.specs.Making.{directory_name}

-- the one branch of a folder's snapshot
abbrev pub head : List ℕ → SnapshotBranch
head root = record { name = codes "HEAD"; target = ToObject (directory_name root) }

-- The snapshot is given, and this is its id.
pub record GivesSnapshot (id : Kind → List ℕ → List ℕ) (root : List ℕ) (old new : List Entry) (own : List ℕ) : Type 0 where
  pub body : List ℕ
  pub is : IsSnapshot body (head root ∷ [])
  pub named : own ≡ id Snapshot body
  pub object : Entry
  pub made : made_from object ≡ object_of Snapshot body
  pub gives : GivesOne old object new
