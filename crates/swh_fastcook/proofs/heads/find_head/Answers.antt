use Rattle.std.proofs.Common.{◌≡◌, [], ℕ, get_or, sym, subst, List, codes}
use Rattle.std.specs.Prelude.{◌≢◌, Contains}
use Rattle.std.proofs.lemmas.List.{take_all}
use Rattle.std.proofs.lemmas.List.Elements.{Contains-get_or}
use Rattle.swh_base.specs.declared.kind.Kind.TheVariants.{Content}
use Rattle.swh_base.specs.Snapshot.{ToBranch}
use Rattle.swh_snpfmt.specs.declared.branch.SpelledBranch.{SpelledBranch}
use Rattle.swh_snpfmt.specs.declared.branch.SpelledTarget.TheVariants.{Object}
use Rattle.swh_snpfmt.specs.Branches.{branch_of}
use Rattle.swh_fastcook.proofs.Lines.{each_more}
use Rattle.swh_fastcook.proofs.heads.find_head.Goals as goal

abbrev none : SpelledBranch
none = record { name = record { ref_ptr = (0, 0); now = [] }; target = Object Content (record { ref_ptr = (0, 0); now = [] }) }

pub returns-in-Some-clause-some : goal.returns-in-Some-clause-some
returns-in-Some-clause-some c =
    let i = c.loop-branch.branch-index in
    let h = c.in-Some.ensures.some in
    (get_or c.args.branches.now i none, Contains-get_or c.args.branches.now i none c.loop-branch-test.true, h.0, h.1)

pub loop-branch-preserved : goal.loop-branch-preserved
loop-branch-preserved c =
    let i = c.loop-branch.branch-index in
    each_more (λ (b : SpelledBranch). (target : List ℕ) → (branch_of b).name ≡ codes "HEAD" → (branch_of b).target ≢ ToBranch target) c.args.branches.now i none c.loop-branch-test.true c.loop-branch.invariant
    c.in_default.ensures.none

pub returns-clause-none : goal.returns-clause-none
returns-clause-none c =
    λ b there. c.loop-branch.invariant b (subst (λ (bs : List SpelledBranch). Contains bs b) (sym (take_all c.loop-branch.branch-index c.args.branches.now c.loop-branch-test.false)) there)
