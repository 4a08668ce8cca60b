use Rattle.std.proofs.Common.{[], ◌⊎◌, List, subst, sym}
use Rattle.std.specs.Prelude.{Contains, ◌↔◌}
use Rattle.swh_base.specs.declared.name.Name.{Name}
use Rattle.swh_snpfmt.specs.declared.branch.SpelledBranch.{SpelledBranch}
use Rattle.swh_snpfmt.specs.Branches.{branch_of, branches_in_body}
use Rattle.swh_fastcarried.specs.First.{IsOneOf, IsOwnTag}
use Rattle.swh_fastcarried.proofs.Ones.{one_none, one_next, one_end, from_none, of_map, set_by}
use Rattle.swh_fastcarried.proofs.tagged.tagged_by.Goals as goal

pub loop-branch-init : goal.loop-branch-init
loop-branch-init g c =
    let Is = λ (b : SpelledBranch). IsOwnTag (g.L.Look.archive c.args.look.now).bodies (branch_of b) in
    subst (λ (l : List Name). (n : Name) → Contains l n ↔ (Contains [] n ⊎ IsOneOf Is [] n)) (sym c.new-tagged.ensures) (one_none Is [])

pub loop-branch-preserved : goal.loop-branch-preserved
loop-branch-preserved g c =
    one_next (λ (b : SpelledBranch). IsOwnTag (g.L.Look.archive c.args.look.now).bodies (branch_of b)) c.args.branches.now c.loop-branch.branch-index _ c.loop-branch-test.true [] c.loop-branch.tagged c.add_own.new.tagged
    c.loop-branch.invariant c.in_ok-add_own.ensures

pub returns : goal.returns
returns g c =
    let bodies = (g.L.Look.archive c.args.look.now).bodies in
    let Is = λ (b : SpelledBranch). IsOwnTag bodies (branch_of b) in
    from_none (IsOwnTag bodies) (branches_in_body c.args.branches.now) c.loop-branch.tagged
    (set_by [] c.loop-branch.tagged (IsOneOf Is c.args.branches.now) (IsOneOf (IsOwnTag bodies) (branches_in_body c.args.branches.now)) (of_map branch_of (IsOwnTag bodies) c.args.branches.now)
    (one_end Is c.args.branches.now c.loop-branch.branch-index c.loop-branch-test.false [] c.loop-branch.tagged c.loop-branch.invariant))
