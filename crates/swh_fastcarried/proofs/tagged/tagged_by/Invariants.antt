use Rattle.std.specs.Prelude.{Contains, ◌↔◌, ◌⊎◌, []}
use Rattle.std.proofs.Common.{take}
use Rattle.swh_base.specs.declared.name.Name.{Name}
use Rattle.swh_snpfmt.specs.Branches.{branch_of}
use Rattle.swh_fastcarried.specs.First.{IsOneOf, IsOwnTag}
use Rattle.swh_fastcarried.proofs.tagged.tagged_by.Given as goal

abbrev pub invariant-loop-branch : goal.invariant-loop-branch
invariant-loop-branch g l = (n : Name) → Contains l.tagged n ↔ (Contains [] n ⊎ IsOneOf (λ b. IsOwnTag (g.L.Look.archive l.look).bodies (branch_of b)) (take l.branch-index l.branches) n)
