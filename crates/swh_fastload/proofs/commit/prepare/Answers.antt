use Rattle.std.proofs.lemmas.Result.{err_from_is_err_and}
use Rattle.std.proofs.Common.{◌∙◌}
use Rattle.std.specs.Option.{option_map}
use Rattle.swh_fastmeaning.specs.Tips.{aim_of}
use Rattle.swh_trees.specs.Grove.{map_of}
use Rattle.swh_fastload.proofs.CommitsMade.{first_missing, merge_missing, tree_refused, starts_at, start_is_tree, ok_is}
use Rattle.swh_fastload.proofs.commit.prepare.Goals as goal

pub returns-in_err-first-clause-err : goal.returns-in_err-first-clause-err
returns-in_err-first-clause-err g c text =
    let p = err_from_is_err_and c.from_residual.result c.from_residual.ensures.1 in
    let h = rw c.as_slice.ensures at c.in_err-first.ensures.err in
    rw (p.1, p.2) (first_missing g.N.Namer.id_of c.args.trees.now c.args.aims.now c.args.commit.now text c.in_err-first.field-0.0 h)

pub returns-in_err-parents-clause-err : goal.returns-in_err-parents-clause-err
returns-in_err-parents-clause-err g c text =
    let p = err_from_is_err_and c.from_residual-in_err-parents.result c.from_residual-in_err-parents.ensures.1 in
    let f = rw c.as_slice.ensures at c.in_ok-first.ensures.ok in
    let h = rw c.as_slice-2.ensures at c.in_err-parents.ensures.err in
    rw (p.1, p.2) (merge_missing g.N.Namer.id_of c.args.trees.now c.args.aims.now c.args.commit.now text (option_map aim_of c.in_ok-first.first) c.in_err-parents.field-0.0 f h)

pub make_tree-requires-clause-tree : goal.make_tree-requires-clause-tree
make_tree-requires-clause-tree g c κs within =
    let f = rw c.as_slice.ensures at c.in_ok-first.ensures.ok in
    start_is_tree c.args.trees.now c.in_ok-first.first c.start_of-start.result (λ a e. c.requires.aims a (f ∙ ok_is (option_map aim_of c.in_ok-first.first) _ e)) c.start_of-start.ensures.none c.start_of-start.ensures.some

pub returns-in_err-made-clause-err : goal.returns-in_err-made-clause-err
returns-in_err-made-clause-err g c text =
    let p = err_from_is_err_and c.from_residual-in_err-made.result c.from_residual-in_err-made.ensures.1 in
    let f = rw c.as_slice.ensures at c.in_ok-first.ensures.ok in
    let k = rw c.as_slice-2.ensures at c.in_ok-parents.ensures.ok in
    let h = rw c.as_slice-3.ensures at c.in_err-made.ensures.err in
    rw (p.1, p.2) (tree_refused g.N.Namer.id_of c.args.trees.now c.args.aims.now c.args.commit.now text (option_map aim_of c.in_ok-first.first) c.in_ok-parents.parents.items (map_of c.args.trees.now c.start_of-start.result) c.in_err-made.field-0.0 f k
    (starts_at c.args.trees.now c.in_ok-first.first c.start_of-start.result c.start_of-start.ensures.none c.start_of-start.ensures.some) h)
