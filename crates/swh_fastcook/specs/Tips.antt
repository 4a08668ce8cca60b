-- The branches of a snapshot whose objects are written.
use Rattle.std.specs.Prelude.{◌≡◌, List, Contains}
use Rattle.swh_base.specs.declared.kind.Kind.TheVariants.{Revision as RevisionKind}
use Rattle.swh_base.specs.declared.name.Name.{Name}
use Rattle.swh_base.specs.Snapshot.{SnapshotBranch, ToObject}

-- Each revision that a branch leads to is one of these names.
abbrev pub LeadInOrder : List Name → List SnapshotBranch → Type 0
LeadInOrder order branches = (b : SnapshotBranch) (n : Name) → Contains branches b → b.target ≡ ToObject n → n.kind ≡ RevisionKind → Contains order n
