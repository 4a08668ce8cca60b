use Rattle.std.proofs.Common.{rules, ◌≡◌, ◌≢◌, [], length, ap, sym, subst, ◌∙◌, ◌++◌, None}
use Rattle.swh_fastlex.specs.Path.{components}
use Rattle.swh_forest.specs.PathMap.{PathMap, held}
use Rattle.swh_forest.specs.Transfer.{transferred}
use Rattle.swh_folders.specs.Working.{count_of}
use Rattle.swh_folders.proofs.Workings.{stays-on}
use Rattle.swh_trees.proofs.Bounds.{bounded-seen, still-seen, emptied}
use Rattle.swh_trees.proofs.Parts.{keeps-seen, number-start, stands-for, stands-start, start-of}
use Rattle.swh_folders.specs.Opened.{open_path}
use Rattle.swh_forest.proofs.Keeping.{among-none, among-left, path-among}
use Rattle.swh_trees.specs.Held.{opened_of, opened_path}
use Rattle.swh_trees.proofs.Namings.{start-path, path-opened, names-changed}
use Rattle.swh_forest.specs.Kept.{AreAmong}
use Rattle.swh_trees.proofs.trees.Trees.transfer.Goals as goal

pub transfer_from-requires-clause-start : goal.transfer_from-requires-clause-start
transfer_from-requires-clause-start g c =
    let a = c.self.inside.folders in
    let n : c.len.result ≡ count_of a = search rules in
    (start-of _ a c.self.inside.opened c.take.result c.self.inside.ids.items c.args.tree c.len.result c.start_with-start.result c.self.view_is c.self.invariant.opens c.requires.tree n c.take.ensures.value c.start_with-start.ensures).0

pub returns-in-Err-clause-keeps : goal.returns-in-Err-clause-keeps
returns-in-Err-clause-keeps g c =
    let n : c.len-base.result ≡ length c.self.inside.ids.items = search rules in
    keeps-seen _ c.self.inside.folders c.drop_unmade.new.folders c.self.inside.opened _ c.self.inside.ids.items _ c.self.view_is c.self.invariant.within n (stays-on c.len-base.result c.self.inside.folders c.transfer_from.new.folders c.drop_unmade.new.folders c.transfer_from.ensures.stays c.drop_unmade.ensures.stays)

pub returns-in-Ok-moved-clause-keeps : goal.returns-in-Ok-moved-clause-keeps
returns-in-Ok-moved-clause-keeps g c =
    let n : c.len-base.result ≡ length c.self.inside.ids.items = search rules in
    keeps-seen _ c.self.inside.folders c.transfer_from.new.folders c.self.inside.opened _ c.self.inside.ids.items _ c.self.view_is c.self.invariant.within n c.transfer_from.ensures.stays

pub returns-in-Ok-moved-clause-some : goal.returns-in-Ok-moved-clause-some
returns-in-Ok-moved-clause-some g c =
    let a = c.self.inside.folders in
    let n : c.len.result ≡ count_of a = search rules in
    let start = start-of _ a c.self.inside.opened c.take.result c.self.inside.ids.items c.args.tree c.len.result c.start_with-start.result c.self.view_is c.self.invariant.opens c.requires.tree n c.take.ensures.value c.start_with-start.ensures in
    subst (λ (m : PathMap). held (components c.args.source.now) m ≢ []) start.1 (rw c.in-Ok-moved.is at c.in-Ok.ensures.some)

pub returns-in-Ok-moved-clause-map : goal.returns-in-Ok-moved-clause-map
returns-in-Ok-moved-clause-map g c =
    let a = c.self.inside.folders in
    let n : c.len.result ≡ count_of a = search rules in
    let start = start-of _ a c.self.inside.opened c.take.result c.self.inside.ids.items c.args.tree c.len.result c.start_with-start.result c.self.view_is c.self.invariant.opens c.requires.tree n c.take.ensures.value c.start_with-start.ensures in
    stands-for c.transfer_from.new.folders _ c.self.inside.ids.items _ _ (rw c.in-Ok-moved.is at c.in-Ok.ensures.inside)
    ((rw c.in-Ok-moved.is at c.in-Ok.ensures.map) ∙ ap (transferred c.args.way (components c.args.source.now) (components c.args.target.now)) start.1)

pub returns-in-Err-moved-clause-keeps : goal.returns-in-Err-moved-clause-keeps
returns-in-Err-moved-clause-keeps g c =
    let n : c.len-base.result ≡ length c.self.inside.ids.items = search rules in
    keeps-seen _ c.self.inside.folders c.transfer_from.new.folders c.self.inside.opened _ c.self.inside.ids.items _ c.self.view_is c.self.invariant.within n c.transfer_from.ensures.stays

pub returns-in-Err-moved-clause-none : goal.returns-in-Err-moved-clause-none
returns-in-Err-moved-clause-none g c =
    let a = c.self.inside.folders in
    let n : c.len.result ≡ count_of a = search rules in
    let start = start-of _ a c.self.inside.opened c.take.result c.self.inside.ids.items c.args.tree c.len.result c.start_with-start.result c.self.view_is c.self.invariant.opens c.requires.tree n c.take.ensures.value c.start_with-start.ensures in
    subst (λ (m : PathMap). held (components c.args.source.now) m ≡ []) start.1 (rw c.in-Err-moved.is at c.in-Ok.ensures.none)

pub returns-in-Err-moved-clause-left : goal.returns-in-Err-moved-clause-left
returns-in-Err-moved-clause-left g c =
    let a = c.self.inside.folders in
    let b = c.transfer_from.new.folders in
    let ids = c.self.inside.ids.items in
    let n : c.len.result ≡ count_of a = search rules in
    let start = start-of _ a c.self.inside.opened c.take.result ids c.args.tree c.len.result c.start_with-start.result c.self.view_is c.self.invariant.opens c.requires.tree n c.take.ensures.value c.start_with-start.ensures in
    let number = number-start a c.self.inside.opened c.take.result c.args.tree.number c.len.result c.start_with-start.result n c.take.ensures.value c.start_with-start.ensures in
    rw c.parts_of-opened.ensures.opened (stands-start b c.in-Err-moved.left ids c.args.tree _ (rw c.in-Err-moved.is at c.in-Ok.ensures.left) (sym ((rw c.in-Err-moved.is at c.in-Ok.ensures.number) ∙ number))
    ((rw c.in-Err-moved.is at c.in-Ok.ensures.same) ∙ start.1))

pub returns-in-Ok-moved-clause-bounded : goal.returns-in-Ok-moved-clause-bounded
returns-in-Ok-moved-clause-bounded g c =
    let a = c.self.inside.folders in
    let b = c.transfer_from.new.folders in
    let ids = c.self.inside.ids.items in
    let base : c.len-base.result ≡ length ids = search rules in
    rw c.take.ensures.after (bounded-seen _ a b c.self.inside.opened ids c.len-base.result (record { number = c.in-Ok-moved.number }) c.self.view_is base c.transfer_from.ensures.stays.good (rw c.in-Ok-moved.is at c.in-Ok.ensures.inside) (rw c.in-Ok-moved.is at c.in-Ok.ensures.bounded))

pub returns-in-Err-moved-clause-still : goal.returns-in-Err-moved-clause-still
returns-in-Err-moved-clause-still g c =
    still-seen _ c.self.inside.folders c.transfer_from.new.folders c.self.inside.opened _ c.self.inside.ids.items c.self.view_is (rw c.in-Err-moved.is at c.in-Ok.ensures.lists) (rw c.in-Err-moved.is at c.in-Ok.ensures.counts)

pub returns-in-Err-clause-names : goal.returns-in-Err-clause-names
returns-in-Err-clause-names g c =
    let path = open_path c.start_with-start.result in
    let own = start-path c.self.inside.opened c.take.result c.args.tree.number c.len.result c.start_with-start.result c.take.ensures.value c.start_with-start.ensures in
    let given = components c.args.source.now ++ components c.args.target.now in
    rw c.take.ensures.after (names-changed _ c.self.inside.folders c.drop_unmade.new.folders c.self.inside.opened None c.self.inside.ids.items path given c.self.view_is own (rw c.drop_unmade.ensures.names c.transfer_from.ensures.kept) (among-none (path ++ given)))

pub returns-in-Ok-moved-clause-names : goal.returns-in-Ok-moved-clause-names
returns-in-Ok-moved-clause-names g c =
    let path = open_path c.start_with-start.result in
    let own = start-path c.self.inside.opened c.take.result c.args.tree.number c.len.result c.start_with-start.result c.take.ensures.value c.start_with-start.ensures in
    let given = components c.args.source.now ++ components c.args.target.now in
    rw c.take.ensures.after (names-changed _ c.self.inside.folders c.transfer_from.new.folders c.self.inside.opened None c.self.inside.ids.items path given c.self.view_is own c.transfer_from.ensures.kept (among-none (path ++ given)))

pub returns-in-Err-moved-clause-names : goal.returns-in-Err-moved-clause-names
returns-in-Err-moved-clause-names g c =
    let path = open_path c.start_with-start.result in
    let own = start-path c.self.inside.opened c.take.result c.args.tree.number c.len.result c.start_with-start.result c.take.ensures.value c.start_with-start.ensures in
    let given = components c.args.source.now ++ components c.args.target.now in
    let l = c.in-Err-moved.left in
    let left : AreAmong (opened_path (opened_of l)) (path ++ given) = path-among (opened_path (opened_of l)) path (path ++ given) (path-opened l ∙ (rw c.in-Err-moved.is at c.in-Ok.ensures.path)) (among-left path given) in
    rw c.parts_of-opened.ensures.opened (names-changed _ c.self.inside.folders c.transfer_from.new.folders c.self.inside.opened (opened_of l) c.self.inside.ids.items path given c.self.view_is own c.transfer_from.ensures.kept left)

pub returns-in-Err-clause-failed : goal.returns-in-Err-clause-failed
returns-in-Err-clause-failed g c =
    let n : c.len-base.result ≡ length c.self.inside.ids.items = search rules in
    rw c.take.ensures.after (emptied c.drop_unmade.new.folders c.self.inside.ids.items (sym n ∙ c.drop_unmade.ensures.all) c.drop_unmade.ensures.most c.drop_unmade.ensures.room)
