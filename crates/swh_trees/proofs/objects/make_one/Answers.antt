use Rattle.std.proofs.Common.{rules, ◌≡◌, ◌<◌, ℕ, List, length, sym, ap, subst, ◌∙◌, arith}
use Rattle.std.proofs.lemmas.List.Elements.{recursion_from_All}
use Rattle.std.proofs.lemmas.Result.{err_from_is_err_and}
use Rattle.swh_base.specs.Directory.{DirectoryEntry}
use Rattle.swh_dirfmt.specs.declared.entry.DirEntry.{DirEntry}
use Rattle.swh_dirfmt.specs.Entries.{entry_views}
use Rattle.swh_forest.specs.Arena.{tree_at, AreGood}
use Rattle.swh_trees.specs.Directory.{directory_id}
use Rattle.swh_trees.specs.Listing.{directory}
use Rattle.swh_trees.specs.Objects.{IsDirectoryObject, ExplainsEntries}
use Rattle.swh_forest.proofs.Arenas.{entries-low, tree-node}
use Rattle.swh_trees.proofs.Listings.{listed-entries, ids-push}
use Rattle.swh_trees.proofs.objects.make_one.Goals as goal

pub listing-requires : goal.listing-requires
listing-requires g c =
    let n : c.len.result ≡ length c.args.ids.now.items = search rules in
    let within : c.len.result < length c.args.nodes.now = let w = c.requires.within in omega arith in
    rw (c.as_slice.ensures.value, c.as_slice-2.ensures.value, c.in_ok-entries.ensures) (subst (λ (k : ℕ). AreGood (length c.args.names.now) k c.index-nodes-len.result.items) n
    (entries-low c.args.names.now c.args.nodes.now c.len.result c.index-nodes-len.result c.requires.good.arena within c.index-nodes-len.is))

pub directory_object-requires-after_bounds : goal.directory_object-requires-after_bounds
directory_object-requires-after_bounds g c κs inside =
    let names = c.args.names.now in
    let nodes = c.args.nodes.now in
    let id = directory_id g.N.Namer.id_of in
    let at = tree_at names nodes in
    let n : c.len.result ≡ length c.args.ids.now.items = search rules in
    let within : c.len.result < length c.args.nodes.now = let w = c.requires.within in omega arith in
    let same = (rw (c.as_slice.ensures.value, c.as_slice-2.ensures.value, c.in_ok-entries.ensures) at c.in_ok-list.ensures.same) id at c.requires.known in
    let node = tree-node names nodes c.len.result c.index-nodes-len.result c.requires.good.arena within c.index-nodes-len.is in
    listed-entries id (tree_at names nodes c.len.result) c.in_ok-list.list.items (c.requires.good.sound c.len.result within) (recursion_from_All (λ (e : DirEntry). length e.id ≡ 20) c.in_ok-list.list.items c.in_ok-list.ensures.ids) (same ∙ ap (directory id) (sym node))

pub returns-in_err-object-clause-err : goal.returns-in_err-object-clause-err
returns-in_err-object-clause-err g c =
    let names = c.args.names.now in
    let nodes = c.args.nodes.now in
    let id = directory_id g.N.Namer.id_of in
    let at = tree_at names nodes in
    let n : c.len.result ≡ length c.args.ids.now.items = search rules in
    let within : c.len.result < length c.args.nodes.now = let w = c.requires.within in omega arith in
    let same = (rw (c.as_slice.ensures.value, c.as_slice-2.ensures.value, c.in_ok-entries.ensures) at c.in_ok-list.ensures.same) id at c.requires.known in
    let node = tree-node names nodes c.len.result c.index-nodes-len.result c.requires.good.arena within c.index-nodes-len.is in
    let listed : entry_views c.in_ok-list.list.items ≡ directory id (tree_at names nodes (length c.args.ids.now.items)) = same ∙ ap (directory id) (sym node) ∙ ap (λ (k : ℕ). directory id (at k)) n in
    let p = err_from_is_err_and c.from_residual-in_err-object.result c.from_residual-in_err-object.ensures.1 in
    rw (p.1, p.2) (subst (λ (es : List DirectoryEntry). ExplainsEntries es c.in_err-object.field-0.0) listed c.in_err-object.ensures.err)

pub returns-clause-known : goal.returns-clause-known
returns-clause-known g c =
    let names = c.args.names.now in
    let nodes = c.args.nodes.now in
    let id = directory_id g.N.Namer.id_of in
    let at = tree_at names nodes in
    let n : c.len.result ≡ length c.args.ids.now.items = search rules in
    let within : c.len.result < length c.args.nodes.now = let w = c.requires.within in omega arith in
    let same = (rw (c.as_slice.ensures.value, c.as_slice-2.ensures.value, c.in_ok-entries.ensures) at c.in_ok-list.ensures.same) id at c.requires.known in
    let node = tree-node names nodes c.len.result c.index-nodes-len.result c.requires.good.arena within c.index-nodes-len.is in
    let listed : entry_views c.in_ok-list.list.items ≡ directory id (tree_at names nodes (length c.args.ids.now.items)) = same ∙ ap (directory id) (sym node) ∙ ap (λ (k : ℕ). directory id (at k)) n in
    let own = c.whole_id.ensures.same ∙ ap (λ (m : _). m.id) c.name-name.ensures.name ∙ c.in_ok-object.ensures.object.id ∙ ap id listed in
    rw c.in_ok-push-2.ensures.items (ids-push id at c.args.ids.now.items c.whole_id.result c.requires.known own)

pub returns-clause-object : goal.returns-clause-object
returns-clause-object g c =
    let names = c.args.names.now in
    let nodes = c.args.nodes.now in
    let id = directory_id g.N.Namer.id_of in
    let at = tree_at names nodes in
    let n : c.len.result ≡ length c.args.ids.now.items = search rules in
    let within : c.len.result < length c.args.nodes.now = let w = c.requires.within in omega arith in
    let same = (rw (c.as_slice.ensures.value, c.as_slice-2.ensures.value, c.in_ok-entries.ensures) at c.in_ok-list.ensures.same) id at c.requires.known in
    let node = tree-node names nodes c.len.result c.index-nodes-len.result c.requires.good.arena within c.index-nodes-len.is in
    let listed : entry_views c.in_ok-list.list.items ≡ directory id (tree_at names nodes (length c.args.ids.now.items)) = same ∙ ap (directory id) (sym node) ∙ ap (λ (k : ℕ). directory id (at k)) n in
    record {
      object = c.in_ok-object.object;
      is = subst (λ (es : List DirectoryEntry). IsDirectoryObject g.N.Namer.id_of es c.in_ok-object.object) listed c.in_ok-object.ensures.object;
      added = c.in_ok-push.ensures.items;
    }
