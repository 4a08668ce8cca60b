use Rattle.std.proofs.Common.{◌≡◌, [], get_or, sym, subst, List}
use Rattle.std.specs.Prelude.{◌≢◌, Contains}
use Rattle.std.proofs.lemmas.List.{take_all}
use Rattle.swh_base.specs.declared.kind.Kind.TheVariants.{Content}
use Rattle.swh_fastwrite.specs.Text.{cook_branch}
use Rattle.swh_snpfmt.specs.declared.branch.SpelledBranch.{SpelledBranch}
use Rattle.swh_snpfmt.specs.declared.branch.SpelledTarget.TheVariants.{Object}
use Rattle.swh_fastcook.proofs.EndTexts.{not_so}
use Rattle.swh_fastcook.proofs.Lines.{each_more}
use Rattle.swh_fastcook.proofs.ends.find_cook_branch.Goals as goal

abbrev none : SpelledBranch
none = record { name = record { ref_ptr = (0, 0); now = [] }; target = Object Content (record { ref_ptr = (0, 0); now = [] }) }

pub loop-branch-preserved : goal.loop-branch-preserved
loop-branch-preserved c =
    let i = c.loop-branch.branch-index in
    each_more (λ (b : SpelledBranch). b.name.now ≢ cook_branch) c.args.branches.now i none c.loop-branch-test.true c.loop-branch.invariant
    (not_so c.is_cook_branch.result ((get_or c.args.branches.now i none).name.now ≡ cook_branch) c.is_cook_branch.ensures c.if-is_cook_branch.false)

pub returns-clause-none : goal.returns-clause-none
returns-clause-none c =
    λ b there. c.loop-branch.invariant b (subst (λ (bs : List SpelledBranch). Contains bs b) (sym (take_all c.loop-branch.branch-index c.args.branches.now c.loop-branch-test.false)) there)
