use Rattle.std.proofs.lemmas.Result.{err_from_is_err_and}
use Rattle.std.proofs.Common.{subst}
use Rattle.swh_trees.specs.Makes.{ExplainsTree}
use Rattle.swh_trees.specs.Grove.{map_of}
use Rattle.swh_fastload.proofs.CommitsMade.{contents_over, tree_over, tree_made}
use Rattle.swh_fastload.proofs.commit.make_tree.Goals as goal

pub returns-in_err-contents-clause-err : goal.returns-in_err-contents-clause-err
returns-in_err-contents-clause-err g c =
    let p = err_from_is_err_and c.from_residual-in_err-contents.result c.from_residual-in_err-contents.ensures.1 in
    let h = c.in_ok-tree.ensures.ok in
    rw (p.1, p.2) (contents_over g.N.Namer.id_of _ _ _ _ _ c.in_err-contents.field-0.0 h (c.in_err-contents.ensures.err h.changed.contents h.holds))

pub returns-in-Ok-clause-ok : goal.returns-in-Ok-clause-ok
returns-in-Ok-clause-ok g c =
    let h = c.in_ok-tree.ensures.ok in
    tree_made g.N.Namer.id_of _ c.args.trees.now c.changed_tree.new.trees c.make.new.self c.in_ok-tree.tree _ _ _ _ _ c.in_ok-contents.contents.items h (c.in_ok-contents.ensures.ok h.changed.contents h.holds) (c.in_ok-contents.ensures.short h.changed.contents h.holds) c.in_ok-tree.ensures.keeps c.in-Ok.ensures.makes

pub returns-in-Err-TooLong-clause-err : goal.returns-in-Err-TooLong-clause-err
returns-in-Err-TooLong-clause-err g c =
    let h = c.in_ok-tree.ensures.ok in
    tree_over g.N.Namer.id_of _ _ _ _ _ c.in-Err-TooLong.len h (c.in_ok-contents.ensures.short h.changed.contents h.holds) (subst (ExplainsTree g.N.Namer.id_of (map_of c.changed_tree.new.trees c.in_ok-tree.tree)) c.in-Err-TooLong.field-0-is c.in-Err-TooLong.ensures.err)
