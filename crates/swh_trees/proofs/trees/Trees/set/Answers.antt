use Rattle.std.proofs.Common.{rules, ◌≡◌, ℕ, List, length, ap, ◌∙◌, Some, ◌++◌, None, sym}
use Rattle.swh_fastlex.specs.Path.{components}
use Rattle.swh_entries.specs.declared.entry.Leaf.{Leaf}
use Rattle.swh_folders.specs.Opened.{start_map, open_path, folder_path}
use Rattle.swh_forest.specs.PathMap.{set}
use Rattle.swh_folders.specs.Working.{count_of}
use Rattle.swh_folders.proofs.Workings.{stays-on}
use Rattle.swh_trees.proofs.Bounds.{stays-seen, emptied}
use Rattle.swh_trees.proofs.Parts.{keeps-seen, stands-open, start-of}
use Rattle.swh_forest.proofs.Keeping.{among-none, among-on, among-right}
use Rattle.swh_trees.proofs.Namings.{start-path, names-changed}
use Rattle.swh_trees.proofs.trees.Trees.set.Goals as goal

pub set_in-requires-clause-start : goal.set_in-requires-clause-start
set_in-requires-clause-start g c =
    let a = c.self.inside.folders in
    let n : c.len.result ≡ count_of a = search rules in
    (start-of _ a c.self.inside.opened c.take.result c.self.inside.ids.items c.args.tree c.len.result c.start_with-start.result c.self.view_is c.self.invariant.opens c.requires.tree n c.take.ensures.value c.start_with-start.ensures).0

pub returns-in-Err-clause-keeps : goal.returns-in-Err-clause-keeps
returns-in-Err-clause-keeps g c =
    let n : c.len-base.result ≡ length c.self.inside.ids.items = search rules in
    keeps-seen _ c.self.inside.folders c.drop_unmade.new.folders c.self.inside.opened _ c.self.inside.ids.items _ c.self.view_is c.self.invariant.within n (stays-on c.len-base.result c.self.inside.folders c.set_in.new.folders c.drop_unmade.new.folders c.set_in.ensures.stays c.drop_unmade.ensures.stays)

pub returns-clause-keeps : goal.returns-clause-keeps
returns-clause-keeps g c =
    let n : c.len-base.result ≡ length c.self.inside.ids.items = search rules in
    keeps-seen _ c.self.inside.folders c.set_in.new.folders c.self.inside.opened (Some c.in-Ok.opened) c.self.inside.ids.items _ c.self.view_is c.self.invariant.within n c.set_in.ensures.stays

pub returns-clause-map : goal.returns-clause-map
returns-clause-map g c =
    let a = c.self.inside.folders in
    let b = c.set_in.new.folders in
    let ids = c.self.inside.ids.items in
    let n : c.len.result ≡ count_of a = search rules in
    let last : c.len-2.result ≡ count_of b = search rules in
    let start = start-of _ a c.self.inside.opened c.take.result ids c.args.tree c.len.result c.start_with-start.result c.self.view_is c.self.invariant.opens c.requires.tree n c.take.ensures.value c.start_with-start.ensures in
    let p = components c.args.path.now in
    let whole : record { mode = c.args.leaf.mode; id = c.whole_id.result } ≡ c.args.leaf = ap (λ (i : List ℕ). record { mode = c.args.leaf.mode; id = i }) c.whole_id.ensures.same in
    stands-open b c.in-Ok.opened ids _ _ (ap Some last)
    (c.in-Ok.ensures.map ∙ ap (λ (l : Leaf). set p l (start_map a c.start_with-start.result)) whole ∙ ap (set p c.args.leaf) start.1)

pub returns-clause-bounded : goal.returns-clause-bounded
returns-clause-bounded g c =
    let a = c.self.inside.folders in
    let b = c.set_in.new.folders in
    let ids = c.self.inside.ids.items in
    let base : c.len-base.result ≡ length ids = search rules in
    let n : c.len.result ≡ count_of a = search rules in
    let start = start-of _ a c.self.inside.opened c.take.result ids c.args.tree c.len.result c.start_with-start.result c.self.view_is c.self.invariant.opens c.requires.tree n c.take.ensures.value c.start_with-start.ensures in
    stays-seen _ a b c.self.inside.opened (Some c.in-Ok.opened) ids c.len-base.result c.in-Ok.opened.root _ _ c.self.view_is base c.set_in.ensures.stays.good c.in-Ok.ensures.opened.root c.in-Ok.ensures.bounded start.1

pub returns-in-Err-clause-names : goal.returns-in-Err-clause-names
returns-in-Err-clause-names g c =
    let path = open_path c.start_with-start.result in
    let own = start-path c.self.inside.opened c.take.result c.args.tree.number c.len.result c.start_with-start.result c.take.ensures.value c.start_with-start.ensures in
    let given = components c.args.path.now in
    rw c.take.ensures.after (names-changed _ c.self.inside.folders c.drop_unmade.new.folders c.self.inside.opened None c.self.inside.ids.items path given c.self.view_is own (rw c.drop_unmade.ensures.names c.set_in.ensures.kept) (among-none (path ++ given)))

pub returns-clause-names : goal.returns-clause-names
returns-clause-names g c =
    let path = open_path c.start_with-start.result in
    let own = start-path c.self.inside.opened c.take.result c.args.tree.number c.len.result c.start_with-start.result c.take.ensures.value c.start_with-start.ensures in
    let given = components c.args.path.now in
    names-changed _ c.self.inside.folders c.set_in.new.folders c.self.inside.opened (Some c.in-Ok.opened) c.self.inside.ids.items path given c.self.view_is own c.set_in.ensures.kept (among-on (folder_path c.in-Ok.opened.path) given (path ++ given) c.in-Ok.ensures.path (among-right path given))

pub returns-in-Err-clause-failed : goal.returns-in-Err-clause-failed
returns-in-Err-clause-failed g c =
    let n : c.len-base.result ≡ length c.self.inside.ids.items = search rules in
    rw c.take.ensures.after (emptied c.drop_unmade.new.folders c.self.inside.ids.items (sym n ∙ c.drop_unmade.ensures.all) c.drop_unmade.ensures.most c.drop_unmade.ensures.room)
