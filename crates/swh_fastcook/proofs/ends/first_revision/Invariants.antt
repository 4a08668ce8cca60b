use Rattle.std.specs.Prelude.{◌≢◌, Contains}
use Rattle.std.proofs.Common.{take}
use Rattle.swh_base.specs.declared.kind.Kind.TheVariants.{Revision as RevisionKind}
use Rattle.swh_base.specs.declared.name.Name.{Name}
use Rattle.swh_fastcook.proofs.ends.first_revision.Given as goal

abbrev pub invariant-loop-name : goal.invariant-loop-name
invariant-loop-name l = (n : Name) → Contains (take l.name-index l.names) n → n.kind ≢ RevisionKind
