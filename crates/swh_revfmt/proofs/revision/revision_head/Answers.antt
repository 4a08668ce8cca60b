use Rattle.std.proofs.Common.{◌++◌, ℕ, List, [], get_or, ap, ◌∙◌, arith, codes}
use Rattle.swh_base.specs.Revision.{id_line, parent_line}
use Rattle.swh_revfmt.proofs.Lines.{parents-more}
use Rattle.swh_revfmt.proofs.revision.revision_head.Goals as goal

pub loop-parent-preserved : goal.loop-parent-preserved
loop-parent-preserved c =
    let parents = c.args.parents.now in
    let i = c.loop-parent.parent-index in
    c.in_ok-put_id_line-2.ensures ∙ ap (λ (t : List ℕ). t ++ parent_line (get_or parents i [])) c.loop-parent.invariant
    ∙ parents-more (id_line (codes "tree ") c.args.directory.now) parents i (omega arith)
