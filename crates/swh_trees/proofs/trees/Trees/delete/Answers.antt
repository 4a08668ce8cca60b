use Rattle.std.proofs.Common.{rules, ◌≡◌, length, ap, ◌∙◌, sym}
use Rattle.swh_fastlex.specs.Path.{components}
use Rattle.swh_forest.specs.PathMap.{delete}
use Rattle.swh_folders.specs.Opened.{root_of_start, open_path}
use Rattle.swh_folders.specs.Working.{count_of}
use Rattle.swh_folders.proofs.Workings.{stays-on}
use Rattle.swh_trees.proofs.Bounds.{start-root, stays-seen, emptied}
use Rattle.swh_trees.proofs.Parts.{keeps-seen, stands-start, start-of}
use Rattle.swh_forest.proofs.Keeping.{among-none, path-among}
use Rattle.swh_trees.specs.Held.{opened_of, opened_path}
use Rattle.swh_trees.proofs.Namings.{start-path, path-opened, names-kept}
use Rattle.swh_trees.proofs.trees.Trees.delete.Goals as goal

pub delete_in-requires-clause-start : goal.delete_in-requires-clause-start
delete_in-requires-clause-start g c =
    let a = c.self.inside.folders in
    let n : c.len.result ≡ count_of a = search rules in
    (start-of _ a c.self.inside.opened c.take.result c.self.inside.ids.items c.args.tree c.len.result c.start_with-start.result c.self.view_is c.self.invariant.opens c.requires.tree n c.take.ensures.value c.start_with-start.ensures).0

pub returns-in-Err-clause-keeps : goal.returns-in-Err-clause-keeps
returns-in-Err-clause-keeps g c =
    let n : c.len-base.result ≡ length c.self.inside.ids.items = search rules in
    keeps-seen _ c.self.inside.folders c.drop_unmade.new.folders c.self.inside.opened _ c.self.inside.ids.items _ c.self.view_is c.self.invariant.within n (stays-on c.len-base.result c.self.inside.folders c.delete_in.new.folders c.drop_unmade.new.folders c.delete_in.ensures.stays c.drop_unmade.ensures.stays)

pub returns-clause-keeps : goal.returns-clause-keeps
returns-clause-keeps g c =
    let n : c.len-base.result ≡ length c.self.inside.ids.items = search rules in
    keeps-seen _ c.self.inside.folders c.delete_in.new.folders c.self.inside.opened _ c.self.inside.ids.items _ c.self.view_is c.self.invariant.within n c.delete_in.ensures.stays

pub returns-clause-map : goal.returns-clause-map
returns-clause-map g c =
    let a = c.self.inside.folders in
    let b = c.delete_in.new.folders in
    let ids = c.self.inside.ids.items in
    let n : c.len.result ≡ count_of a = search rules in
    let last : c.len-2.result ≡ count_of b = search rules in
    let start = start-of _ a c.self.inside.opened c.take.result ids c.args.tree c.len.result c.start_with-start.result c.self.view_is c.self.invariant.opens c.requires.tree n c.take.ensures.value c.start_with-start.ensures in
    rw c.parts_of-number.ensures.opened (stands-start b c.in-Ok.left ids _ _ c.in-Ok.ensures.start (c.parts_of-number.ensures.number b last)
    (c.in-Ok.ensures.map ∙ ap (delete (components c.args.path.now)) start.1))

pub returns-clause-bounded : goal.returns-clause-bounded
returns-clause-bounded g c =
    let a = c.self.inside.folders in
    let b = c.delete_in.new.folders in
    let ids = c.self.inside.ids.items in
    let base : c.len-base.result ≡ length ids = search rules in
    let n : c.len.result ≡ count_of a = search rules in
    let start = start-of _ a c.self.inside.opened c.take.result ids c.args.tree c.len.result c.start_with-start.result c.self.view_is c.self.invariant.opens c.requires.tree n c.take.ensures.value c.start_with-start.ensures in
    stays-seen _ a b c.self.inside.opened _ ids c.len-base.result (root_of_start c.in-Ok.left) _ _ c.self.view_is base c.delete_in.ensures.stays.good (start-root b c.in-Ok.left c.in-Ok.ensures.start) c.in-Ok.ensures.bounded start.1

pub returns-in-Err-clause-names : goal.returns-in-Err-clause-names
returns-in-Err-clause-names g c =
    let path = open_path c.start_with-start.result in
    let own = start-path c.self.inside.opened c.take.result c.args.tree.number c.len.result c.start_with-start.result c.take.ensures.value c.start_with-start.ensures in
    names-kept _ c.self.inside.folders c.drop_unmade.new.folders c.self.inside.opened c.self.inside.ids.items path c.self.view_is own (rw c.drop_unmade.ensures.names c.delete_in.ensures.kept)

pub returns-in-Err-clause-path : goal.returns-in-Err-clause-path
returns-in-Err-clause-path g c = rw c.take.ensures.after (among-none (components c.args.path.now))

pub returns-clause-names : goal.returns-clause-names
returns-clause-names g c =
    let path = open_path c.start_with-start.result in
    let own = start-path c.self.inside.opened c.take.result c.args.tree.number c.len.result c.start_with-start.result c.take.ensures.value c.start_with-start.ensures in
    names-kept _ c.self.inside.folders c.delete_in.new.folders c.self.inside.opened c.self.inside.ids.items path c.self.view_is own c.delete_in.ensures.kept

pub returns-clause-path : goal.returns-clause-path
returns-clause-path g c =
    let l = c.in-Ok.left in
    rw c.parts_of-number.ensures.opened (path-among (opened_path (opened_of l)) (open_path l) (components c.args.path.now) (path-opened l) c.in-Ok.ensures.path)

pub returns-in-Err-clause-failed : goal.returns-in-Err-clause-failed
returns-in-Err-clause-failed g c =
    let n : c.len-base.result ≡ length c.self.inside.ids.items = search rules in
    rw c.take.ensures.after (emptied c.drop_unmade.new.folders c.self.inside.ids.items (sym n ∙ c.drop_unmade.ensures.all) c.drop_unmade.ensures.most c.drop_unmade.ensures.room)
