use Rattle.std.specs.Prelude.{Contains}
use Rattle.std.proofs.Common.{take}
use Rattle.swh_base.specs.declared.name.Name.{Name}
use Rattle.swh_fastcarried.specs.First.{IsFolderAt}
use Rattle.swh_fastcarried.proofs.folders.is_folder.Given as goal

abbrev pub invariant-loop-parent : goal.invariant-loop-parent
invariant-loop-parent g l = (n : Name) → Contains (take l.parent-index l.order) n → IsFolderAt (g.L.Look.archive l.look).bodies n l.fn.name → ⊥
