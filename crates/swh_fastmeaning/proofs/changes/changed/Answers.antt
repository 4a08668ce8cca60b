use Rattle.std.proofs.Common.{sym, subst, rules}
use Rattle.swh_fastlex.specs.Path.{IsPath}
use Rattle.swh_trees.specs.Grove.{map_of}
use Rattle.swh_fastmeaning.specs.Changes.{IsGivableChange, ExplainsChange, changed_of}
use Rattle.swh_fastmeaning.specs.Commands.{changed}
use Rattle.swh_fastmeaning.proofs.ChangesMade.{keeps_self, set_err, set_done, delete_done, clear_done, copy_is, move_is, source_done, source_err}
use Rattle.swh_fastmeaning.proofs.changes.changed.Goals as goal

pub returns-in_err-id-in-Set-clause-keeps : goal.returns-in_err-id-in-Set-clause-keeps
returns-in_err-id-in-Set-clause-keeps g c = keeps_self c.args.trees.now

pub returns-in_err-id-in-Set-clause-ok : goal.returns-in_err-id-in-Set-clause-ok
returns-in_err-id-in-Set-clause-ok g c ms h = search rules

pub returns-in_err-id-in-Set-clause-err : goal.returns-in_err-id-in-Set-clause-err
returns-in_err-id-in-Set-clause-err g c ms =
    let t : ExplainsChange (changed g.N.Namer.id_of c.args.aims.now c.args.change.now.at c.args.change.now.it (changed_of (map_of c.args.trees.now c.args.tree) ms)) c.in_err-id-in-Set.field-0.0 =
    set_err g.N.Namer.id_of c.args.aims.now c.args.change.now.at c.args.change.now.it (map_of c.args.trees.now c.args.tree) ms _ _ _ c.in_err-id-in-Set.field-0.0 c.in-Set.is c.in_err-id-in-Set.ensures.err in
    search rules

pub set-requires-clause-tree : goal.set-requires-clause-tree
set-requires-clause-tree g c κs within = c.requires.tree

pub set-requires-clause-path : goal.set-requires-clause-path
set-requires-clause-path g c κs within =
    let h = subst IsGivableChange c.in-Set.is c.requires.change in
    subst IsPath (sym c.as_slice.ensures) h.1

pub set-requires-clause-mode : goal.set-requires-clause-mode
set-requires-clause-mode g c κs within =
    let h = subst IsGivableChange c.in-Set.is c.requires.change in
    h.0

pub returns-in_err-set-in-Set-clause-keeps : goal.returns-in_err-set-in-Set-clause-keeps
returns-in_err-set-in-Set-clause-keeps g c = c.set.ensures.keeps

pub returns-in_err-set-in-Set-clause-ok : goal.returns-in_err-set-in-Set-clause-ok
returns-in_err-set-in-Set-clause-ok g c ms h = search rules

pub returns-in_err-set-in-Set-clause-err : goal.returns-in_err-set-in-Set-clause-err
returns-in_err-set-in-Set-clause-err g c ms = search rules

pub delete-requires-clause-tree : goal.delete-requires-clause-tree
delete-requires-clause-tree g c κs within = c.requires.tree

pub delete-requires-clause-path : goal.delete-requires-clause-path
delete-requires-clause-path g c κs within = subst IsPath (sym c.as_slice-in-Delete.ensures) (subst IsGivableChange c.in-Delete.is c.requires.change)

pub returns-in_err-delete-in-Delete-clause-keeps : goal.returns-in_err-delete-in-Delete-clause-keeps
returns-in_err-delete-in-Delete-clause-keeps g c = c.delete.ensures.keeps

pub returns-in_err-delete-in-Delete-clause-ok : goal.returns-in_err-delete-in-Delete-clause-ok
returns-in_err-delete-in-Delete-clause-ok g c ms h = search rules

pub returns-in_err-delete-in-Delete-clause-err : goal.returns-in_err-delete-in-Delete-clause-err
returns-in_err-delete-in-Delete-clause-err g c ms = search rules

pub copy-requires-clause-tree : goal.copy-requires-clause-tree
copy-requires-clause-tree g c κs within = c.requires.tree

pub copy-requires-clause-source : goal.copy-requires-clause-source
copy-requires-clause-source g c κs within =
    let h = subst IsGivableChange c.in-Copy.is c.requires.change in
    subst IsPath (sym c.as_slice-in-Copy.ensures) h.0

pub copy-requires-clause-target : goal.copy-requires-clause-target
copy-requires-clause-target g c κs within =
    let h = subst IsGivableChange c.in-Copy.is c.requires.change in
    subst IsPath (sym c.as_slice-in-Copy-2.ensures) h.1

pub returns-in_err-found-in-Copy-clause-keeps : goal.returns-in_err-found-in-Copy-clause-keeps
returns-in_err-found-in-Copy-clause-keeps g c = c.copy.ensures.keeps

pub returns-in_err-found-in-Copy-clause-ok : goal.returns-in_err-found-in-Copy-clause-ok
returns-in_err-found-in-Copy-clause-ok g c ms h = search rules

pub returns-in_err-found-in-Copy-clause-err : goal.returns-in_err-found-in-Copy-clause-err
returns-in_err-found-in-Copy-clause-err g c ms = search rules

pub rename-requires-clause-tree : goal.rename-requires-clause-tree
rename-requires-clause-tree g c κs within = c.requires.tree

pub rename-requires-clause-source : goal.rename-requires-clause-source
rename-requires-clause-source g c κs within =
    let h = subst IsGivableChange c.in-Move.is c.requires.change in
    subst IsPath (sym c.as_slice-in-Move.ensures) h.0

pub rename-requires-clause-target : goal.rename-requires-clause-target
rename-requires-clause-target g c κs within =
    let h = subst IsGivableChange c.in-Move.is c.requires.change in
    subst IsPath (sym c.as_slice-in-Move-2.ensures) h.1

pub returns-in_err-found-in-Move-clause-keeps : goal.returns-in_err-found-in-Move-clause-keeps
returns-in_err-found-in-Move-clause-keeps g c = c.rename.ensures.keeps

pub returns-in_err-found-in-Move-clause-ok : goal.returns-in_err-found-in-Move-clause-ok
returns-in_err-found-in-Move-clause-ok g c ms h = search rules

pub returns-in_err-found-in-Move-clause-err : goal.returns-in_err-found-in-Move-clause-err
returns-in_err-found-in-Move-clause-err g c ms = search rules

pub returns-in_ok-set-in-Set-clause-keeps : goal.returns-in_ok-set-in-Set-clause-keeps
returns-in_ok-set-in-Set-clause-keeps g c = c.set.ensures.keeps

pub returns-in_ok-set-in-Set-clause-ok : goal.returns-in_ok-set-in-Set-clause-ok
returns-in_ok-set-in-Set-clause-ok g c ms h = set_done g.N.Namer.id_of c.args.aims.now c.args.change.now.at c.args.change.now.it (map_of c.args.trees.now c.args.tree) ms _ _ _ c.as_slice.result.now c.in_ok-id-in-Set.id _ _ _ _ c.in-Set.is c.as_slice.ensures (c.in_ok-id-in-Set.ensures.ok ms h) c.in_ok-set-in-Set.ensures.map

pub returns-in_ok-delete-in-Delete-clause-keeps : goal.returns-in_ok-delete-in-Delete-clause-keeps
returns-in_ok-delete-in-Delete-clause-keeps g c = c.delete.ensures.keeps

pub returns-in_ok-delete-in-Delete-clause-ok : goal.returns-in_ok-delete-in-Delete-clause-ok
returns-in_ok-delete-in-Delete-clause-ok g c ms h = delete_done g.N.Namer.id_of c.args.aims.now c.args.change.now.at c.args.change.now.it (map_of c.args.trees.now c.args.tree) ms _ c.as_slice-in-Delete.result.now _ _ _ _ c.in-Delete.is c.as_slice-in-Delete.ensures c.in_ok-delete-in-Delete.ensures.map h

pub returns-in_ok-found-in-Copy-clause-keeps : goal.returns-in_ok-found-in-Copy-clause-keeps
returns-in_ok-found-in-Copy-clause-keeps g c = c.copy.ensures.keeps

pub returns-in_ok-found-in-Copy-clause-ok : goal.returns-in_ok-found-in-Copy-clause-ok
returns-in_ok-found-in-Copy-clause-ok g c ms h = source_done g.N.Namer.id_of c.args.aims.now c.args.change.now.at c.args.change.now.it (map_of c.args.trees.now c.args.tree) ms c.as_slice-in-Copy.result.now _ c.in_ok-found-in-Copy.found c.or_no_place.result _ _ _ (copy_is g.N.Namer.id_of c.args.aims.now c.args.change.now.at c.args.change.now.it (map_of c.args.trees.now c.args.tree) ms _ _ c.as_slice-in-Copy.result.now c.as_slice-in-Copy-2.result.now c.in-Copy.is c.as_slice-in-Copy.ensures c.as_slice-in-Copy-2.ensures) c.in_ok-found-in-Copy.ensures.some c.in_ok-found-in-Copy.ensures.map c.or_no_place.ensures.ok h

pub returns-in_ok-found-in-Copy-clause-err : goal.returns-in_ok-found-in-Copy-clause-err
returns-in_ok-found-in-Copy-clause-err g c ms = source_err g.N.Namer.id_of c.args.aims.now c.args.change.now.at c.args.change.now.it (map_of c.args.trees.now c.args.tree) ms c.as_slice-in-Copy.result.now _ c.in_ok-found-in-Copy.found c.or_no_place.result (copy_is g.N.Namer.id_of c.args.aims.now c.args.change.now.at c.args.change.now.it (map_of c.args.trees.now c.args.tree) ms _ _ c.as_slice-in-Copy.result.now c.as_slice-in-Copy-2.result.now c.in-Copy.is c.as_slice-in-Copy.ensures c.as_slice-in-Copy-2.ensures) c.in_ok-found-in-Copy.ensures.none c.or_no_place.ensures.err

pub returns-in_ok-found-in-Move-clause-keeps : goal.returns-in_ok-found-in-Move-clause-keeps
returns-in_ok-found-in-Move-clause-keeps g c = c.rename.ensures.keeps

pub returns-in_ok-found-in-Move-clause-ok : goal.returns-in_ok-found-in-Move-clause-ok
returns-in_ok-found-in-Move-clause-ok g c ms h = source_done g.N.Namer.id_of c.args.aims.now c.args.change.now.at c.args.change.now.it (map_of c.args.trees.now c.args.tree) ms c.as_slice-in-Move.result.now _ c.in_ok-found-in-Move.found c.or_no_place-in-Move.result _ _ _ (move_is g.N.Namer.id_of c.args.aims.now c.args.change.now.at c.args.change.now.it (map_of c.args.trees.now c.args.tree) ms _ _ c.as_slice-in-Move.result.now c.as_slice-in-Move-2.result.now c.in-Move.is c.as_slice-in-Move.ensures c.as_slice-in-Move-2.ensures) c.in_ok-found-in-Move.ensures.some c.in_ok-found-in-Move.ensures.map c.or_no_place-in-Move.ensures.ok h

pub returns-in_ok-found-in-Move-clause-err : goal.returns-in_ok-found-in-Move-clause-err
returns-in_ok-found-in-Move-clause-err g c ms = source_err g.N.Namer.id_of c.args.aims.now c.args.change.now.at c.args.change.now.it (map_of c.args.trees.now c.args.tree) ms c.as_slice-in-Move.result.now _ c.in_ok-found-in-Move.found c.or_no_place-in-Move.result (move_is g.N.Namer.id_of c.args.aims.now c.args.change.now.at c.args.change.now.it (map_of c.args.trees.now c.args.tree) ms _ _ c.as_slice-in-Move.result.now c.as_slice-in-Move-2.result.now c.in-Move.is c.as_slice-in-Move.ensures c.as_slice-in-Move-2.ensures) c.in_ok-found-in-Move.ensures.none c.or_no_place-in-Move.ensures.err

pub returns-in-Clear-clause-keeps : goal.returns-in-Clear-clause-keeps
returns-in-Clear-clause-keeps g c = keeps_self c.args.trees.now

pub returns-in-Clear-clause-ok : goal.returns-in-Clear-clause-ok
returns-in-Clear-clause-ok g c ms h = clear_done g.N.Namer.id_of c.args.aims.now c.args.change.now.at c.args.change.now.it (map_of c.args.trees.now c.args.tree) ms _ _ _ _ c.in-Clear.is (c.empty.ensures c.args.trees.now) h
