use Rattle.std.proofs.Common.{[], sym, subst, List}
use Rattle.std.specs.Prelude.{Contains}
use Rattle.std.proofs.lemmas.List.{take_all}
use Rattle.swh_base.specs.declared.kind.Kind.TheVariants.{Content}
use Rattle.swh_snpfmt.specs.declared.branch.SpelledBranch.{SpelledBranch}
use Rattle.swh_snpfmt.specs.declared.branch.SpelledTarget.TheVariants.{Object}
use Rattle.swh_snpfmt.specs.Branches.{branch_of}
use Rattle.swh_fastcarried.specs.Rules.{IsCarriedTarget}
use Rattle.swh_fastcarried.proofs.OwnBranches.{each_more}
use Rattle.swh_fastcarried.proofs.branches.first_odd.Goals as goal

abbrev none : SpelledBranch
none = record { name = record { ref_ptr = (0, 0); now = [] }; target = Object Content (record { ref_ptr = (0, 0); now = [] }) }

pub loop-branch-preserved : goal.loop-branch-preserved
loop-branch-preserved g c =
    let bodies = (g.L.Look.archive c.args.look.now).bodies in
    let i = c.loop-branch.branch-index in
    each_more (λ (b : SpelledBranch). IsCarriedTarget bodies (branch_of b).name (branch_of b).target) c.args.branches.now i none c.loop-branch-test.true c.loop-branch.invariant
    (c.is_carried.ensures.0 c.if-not-is_carried.false)

pub returns-clause-none : goal.returns-clause-none
returns-clause-none g c =
    λ b there. c.loop-branch.invariant b (subst (λ (bs : List SpelledBranch). Contains bs b) (sym (take_all c.loop-branch.branch-index c.args.branches.now c.loop-branch-test.false)) there)
