use Rattle.std.proofs.Common.{sym, ap, ◌∙◌, ◌++◌, List, ℕ, arith}
use Rattle.swh_base.specs.Snapshot.{branch_text}
use Rattle.swh_snpfmt.specs.Branches.{branch_view}
use Rattle.swh_snpfmt.proofs.Texts.{text-more}
use Rattle.swh_snpfmt.proofs.writing.write_snp.Goals as goal

pub loop-branch-preserved : goal.loop-branch-preserved
loop-branch-preserved c =
    let branch = c.branch-item.result in
    c.in_ok-put_branch.ensures ∙ ap (λ (t : List ℕ). t ++ branch_text (branch_view branch)) c.loop-branch.invariant
    ∙ sym (text-more c.list-branch-items.result.now c.loop-branch.branch-index branch (omega arith) c.branch-item.is)
