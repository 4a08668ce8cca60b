use Rattle.std.proofs.Common.{rules, ◌≡◌, [], ℕ, length, None, sym, ap, subst, ◌∙◌, arith}
use Rattle.swh_trees.specs.Grove.{Grove, Keeps, map_of}
use Rattle.swh_trees.specs.Held.{grove}
use Rattle.swh_forest.specs.PathMap.{PathMap}
use Rattle.swh_folders.specs.Working.{IsTallied, StaysBelow, count_of, root_map, folder_at}
use Rattle.std.proofs.lemmas.List.{get_or_default}
use Rattle.std.proofs.lemmas.Result.{err_from_is_err_and}
use Rattle.swh_trees.specs.Makes.{Makes, ExplainsTree}
use Rattle.swh_folders.proofs.Workings.{stays-on}
use Rattle.swh_trees.proofs.Bounds.{emptied}
use Rattle.swh_trees.proofs.Parts.{bare-stays, keeps-seen, keeps-stays, on-err, explained, IsMaking, makes-done, makes-from, start-of}
use Rattle.swh_folders.specs.Opened.{open_path}
use Rattle.swh_trees.proofs.Namings.{start-path, names-closed}
use Rattle.swh_trees.proofs.trees.Trees.make_objects.Goals as goal

pub root_from-requires-clause-start : goal.root_from-requires-clause-start
root_from-requires-clause-start g c =
    let a = c.self.inside.folders in
    let n : c.len.result ≡ count_of a = search rules in
    (start-of _ a c.self.inside.opened c.take.result c.self.inside.ids.items c.args.tree c.len.result c.start_with-start.result c.self.view_is c.self.invariant.opens c.requires n c.take.ensures.value c.start_with-start.ensures).0

pub returns-in_err-there-clause-keeps : goal.returns-in_err-there-clause-keeps
returns-in_err-there-clause-keeps g c =
    let ids = c.self.inside.ids.items in
    let n : c.len-base.result ≡ length ids = search rules in
    let tallied = subst (λ (k : ℕ). IsTallied k c.self.inside.folders) (sym n) c.self.invariant.tallied in
    on-err c.from_residual.result (keeps-seen _ c.self.inside.folders c.root_from.new.folders c.self.inside.opened _ ids _ c.self.view_is c.self.invariant.within n (c.root_from.ensures.stays c.len-base.result tallied))

pub root_number-requires-clause-tallied : goal.root_number-requires-clause-tallied
root_number-requires-clause-tallied g c =
    let n : c.len-base.result ≡ length c.self.inside.ids.items = search rules in
    c.root_from.ensures.tallied c.len-base.result (subst (λ (k : ℕ). IsTallied k c.self.inside.folders) (sym n) c.self.invariant.tallied)

pub root_number-requires-clause-empty : goal.root_number-requires-clause-empty
root_number-requires-clause-empty g c =
    let a = c.self.inside.folders in
    let b = c.root_from.new.folders in
    let ids = c.self.inside.ids.items in
    let n : c.len-base.result ≡ length ids = search rules in
    let stays = c.root_from.ensures.stays (length ids) c.self.invariant.tallied in
    rw n (bare-stays (folder_at a) (folder_at b) (length ids) c.self.inside.empty stays.stay c.self.invariant.no_files)

pub returns-in_err-root-clause-keeps : goal.returns-in_err-root-clause-keeps
returns-in_err-root-clause-keeps g c =
    let a = c.self.inside.folders in
    let ids = c.self.inside.ids.items in
    let n : c.len-base.result ≡ length ids = search rules in
    let tallied = subst (λ (k : ℕ). IsTallied k c.self.inside.folders) (sym n) c.self.invariant.tallied in
    on-err c.from_residual-in_err-root.result (keeps-seen _ a c.root_number.new.folders c.self.inside.opened _ ids _ c.self.view_is c.self.invariant.within n
    (stays-on c.len-base.result a c.root_from.new.folders c.root_number.new.folders (c.root_from.ensures.stays c.len-base.result tallied) c.root_number.ensures.stays))

pub returns-in_err-number-clause-keeps : goal.returns-in_err-number-clause-keeps
returns-in_err-number-clause-keeps g c =
    let a = c.self.inside.folders in
    let b = c.root_number.new.folders in
    let d = c.make_folders.new.folders in
    let ids = c.self.inside.ids.items in
    let n : c.len-base.result ≡ length ids = search rules in
    let second = subst (λ (k : ℕ). StaysBelow k c.root_from.new.folders b) n c.root_number.ensures.stays in
    let first = stays-on (length ids) a c.root_from.new.folders b (c.root_from.ensures.stays (length ids) c.self.invariant.tallied) second in
    on-err c.from_residual-in_err-number.result (subst (λ (v : Grove). Keeps v (grove d c.take.new.self c.make_folders.new.ids.items)) c.self.view_is
    (keeps-stays a d c.self.inside.opened _ ids c.make_folders.new.ids.items c.self.invariant.within (stays-on (length ids) a b d first c.make_folders.ensures.stays) (ap length c.in_err-number.ensures.none_made)))

pub returns-in_err-number-clause-err : goal.returns-in_err-number-clause-err
returns-in_err-number-clause-err g c =
    let a = c.self.inside.folders in
    let b = c.root_number.new.folders in
    let ids = c.self.inside.ids.items in
    let count : c.len.result ≡ count_of a = search rules in
    let start = start-of _ a c.self.inside.opened c.take.result ids c.args.tree c.len.result c.start_with-start.result c.self.view_is c.self.invariant.opens c.requires count c.take.ensures.value c.start_with-start.ensures in
    let before = c.in_ok-there.ensures.map ∙ start.1 in
    let good = c.root_number.ensures.stays.good in
    let p = err_from_is_err_and c.from_residual-in_err-number.result c.from_residual-in_err-number.ensures.1 in
    rw (p.1, p.2) (subst (λ (m : PathMap). ExplainsTree g.N.Namer.id_of m c.in_err-number.field-0.0) before
    (explained g.N.Namer.id_of c.root_from.new.folders c.in_ok-there.there (folder_at b c.in_ok-root.root) c.in_err-number.field-0.0 (good.sound c.in_ok-root.root c.in_ok-root.ensures.inside) c.in_ok-root.ensures.same c.in_err-number.ensures.err))

pub returns-clause-makes : goal.returns-clause-makes
returns-clause-makes g c =
    let a = c.self.inside.folders in
    let closed = c.root_from.new.folders in
    let b = c.root_number.new.folders in
    let d = c.make_folders.new.folders in
    let ids = c.self.inside.ids.items in
    let ids' = c.make_folders.new.ids.items in
    let n : c.len-base.result ≡ length ids = search rules in
    let count : c.len.result ≡ count_of a = search rules in
    let start = start-of _ a c.self.inside.opened c.take.result ids c.args.tree c.len.result c.start_with-start.result c.self.view_is c.self.invariant.opens c.requires count c.take.ensures.value c.start_with-start.ensures in
    let before : root_map closed c.in_ok-there.there ≡ map_of c.args.self.now c.args.tree = c.in_ok-there.ensures.map ∙ start.1 in
    let stays = c.root_from.ensures.stays (length ids) c.self.invariant.tallied in
    let first = subst (λ (k : ℕ). StaysBelow k closed b) n c.root_number.ensures.stays in
    let all = c.in_ok-number.ensures.all in
    let inside = c.in_ok-number.ensures.inside in
    let own = c.index-id.ensures ∙ get_or_default ids' c.in_ok-number.number _ [] (omega arith) in
    let making : IsMaking g.N.Namer.id_of closed b d (length ids) c.in_ok-root.root c.in_ok-number.number = record {
      first = first;
      then = c.make_folders.ensures.stays;
      root = c.in_ok-number.ensures.same;
      inside = inside;
      parts = c.in_ok-number.ensures.parts;
    } in
    let done = makes-done g.N.Namer.id_of closed b d ids ids' c.in_ok-there.there c.in_ok-root.root c.in_ok-number.number c.kept-empty.result.0 c.index-id.result.now c.in_ok-number.objects.items stays.good stays.long making c.in_ok-root.ensures.same all c.make_folders.ensures.known c.in_ok-number.ensures.each c.in_ok-number.ensures.objects own c.kept-empty.ensures.tree in
    let from = makes-from g.N.Namer.id_of a closed c.self.inside.opened ids (grove d None ids') (root_map closed c.in_ok-there.there) c.kept-empty.result.0 c.index-id.result.now c.in_ok-number.objects.items c.self.invariant.within stays done in
    rw c.take.ensures.after (subst (λ (v : Grove). Makes g.N.Namer.id_of v (grove d None ids') (map_of c.args.self.now c.args.tree) c.kept-empty.result.0 c.index-id.result.now c.in_ok-number.objects.items) c.self.view_is
    (subst (λ (m : PathMap). Makes g.N.Namer.id_of (grove a c.self.inside.opened ids) (grove d None ids') m c.kept-empty.result.0 c.index-id.result.now c.in_ok-number.objects.items) before from))

pub returns-clause-bounded : goal.returns-clause-bounded
returns-clause-bounded g c = rw c.take.ensures.after (emptied c.make_folders.new.folders c.make_folders.new.ids.items c.in_ok-number.ensures.all c.in_ok-number.ensures.most c.in_ok-number.ensures.room)

pub returns-in_err-there-clause-names : goal.returns-in_err-there-clause-names
returns-in_err-there-clause-names g c =
    let path = open_path c.start_with-start.result in
    let own = start-path c.self.inside.opened c.take.result c.args.tree.number c.len.result c.start_with-start.result c.take.ensures.value c.start_with-start.ensures in
    rw c.take.ensures.after (names-closed _ c.self.inside.folders c.root_from.new.folders c.self.inside.opened c.self.inside.ids.items path c.self.view_is own c.root_from.ensures.kept)

pub returns-in_err-root-clause-names : goal.returns-in_err-root-clause-names
returns-in_err-root-clause-names g c =
    let path = open_path c.start_with-start.result in
    let own = start-path c.self.inside.opened c.take.result c.args.tree.number c.len.result c.start_with-start.result c.take.ensures.value c.start_with-start.ensures in
    rw c.take.ensures.after (names-closed _ c.self.inside.folders c.root_number.new.folders c.self.inside.opened c.self.inside.ids.items path c.self.view_is own (rw c.root_number.ensures.names c.root_from.ensures.kept))

pub returns-in_err-number-clause-names : goal.returns-in_err-number-clause-names
returns-in_err-number-clause-names g c =
    let path = open_path c.start_with-start.result in
    let own = start-path c.self.inside.opened c.take.result c.args.tree.number c.len.result c.start_with-start.result c.take.ensures.value c.start_with-start.ensures in
    rw c.take.ensures.after (names-closed _ c.self.inside.folders c.make_folders.new.folders c.self.inside.opened c.self.inside.ids.items path c.self.view_is own (rw (c.make_folders.ensures.names, c.root_number.ensures.names) c.root_from.ensures.kept))

pub returns-clause-names : goal.returns-clause-names
returns-clause-names g c =
    let path = open_path c.start_with-start.result in
    let own = start-path c.self.inside.opened c.take.result c.args.tree.number c.len.result c.start_with-start.result c.take.ensures.value c.start_with-start.ensures in
    rw c.take.ensures.after (names-closed _ c.self.inside.folders c.make_folders.new.folders c.self.inside.opened c.self.inside.ids.items path c.self.view_is own (rw (c.make_folders.ensures.names, c.root_number.ensures.names) c.root_from.ensures.kept))
