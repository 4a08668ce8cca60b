use Rattle.std.proofs.Common.{List, ap, ◌∙◌}
use Rattle.std.proofs.lemmas.List.{take_all}
use Rattle.swh_snpfmt.specs.declared.branch.SpelledBranch.{SpelledBranch}
use Rattle.swh_snpfmt.specs.Branches.{branches_in_body}
use Rattle.swh_replies.specs.Json.{branches_data}
use Rattle.swh_replies.specs.Writes.{targets_data}
use Rattle.swh_replies.proofs.Shown.{put_named}
use Rattle.swh_replies.proofs.Values.{one_more_branch}
use Rattle.swh_replies.proofs.branches.by_escaped.Goals as goal

pub loop-branch-preserved : goal.loop-branch-preserved
loop-branch-preserved c =
    let old = c.loop-branch.targets.entries in
    one_more_branch c.args.branches.now c.loop-branch.branch-index _ _ _ c.loop-branch.invariant c.loop-branch-test.true
    (ap targets_data c.in_ok-insert.ensures.entries ∙ put_named old c.in_ok-name.name _ _ c.in_ok-name.ensures)

pub returns : goal.returns
returns c = c.loop-branch.invariant ∙ ap (λ (bs : List SpelledBranch). branches_data (branches_in_body bs)) (take_all c.loop-branch.branch-index c.args.branches.now c.loop-branch-test.false)
