use Rattle.std.proofs.Common.{rules, ◌<◌, List, sym, ap, subst, ◌∙◌, length}
use Rattle.std.specs.Prelude.{All}
use Rattle.swh_entries.specs.declared.entry.Entry.{Entry}
use Rattle.swh_forest.specs.Forest.{without}
use Rattle.swh_forest.specs.Sound.{IsSound}
use Rattle.swh_forest.specs.Ordered.{AreOrdered}
use Rattle.swh_forest.specs.Arena.{tree_at, forest_of, AreGood}
use Rattle.swh_entries.specs.Keys.{texts}
use Rattle.swh_forest.proofs.Arenas.{if_ok, tree-node, entries-good, names-in_range}
use Rattle.swh_forest.proofs.Steps.{without-good, forest-without}
use Rattle.swh_forest.proofs.Ordering.{node-sound, node-ordered}
use Rattle.swh_forest.proofs.arena.cleared.Goals as goal

pub kept-requires-clause-names : goal.kept-requires-clause-names
kept-requires-clause-names c =
    let lt : c.in-Folder.i < length c.args.nodes.now = search rules in
    subst (λ (es : List Entry). All (λ (e : Entry). e.name < length c.args.names.now) es) (sym c.in_ok-copy-in-Folder.ensures.items)
    (names-in_range (length c.args.names.now) (length c.args.nodes.now) c.index-nodes-i.result.items (entries-good c.args.names.now c.args.nodes.now c.in-Folder.i c.index-nodes-i.result c.requires.good.arena lt c.index-nodes-i.is))

pub kept-requires-clause-ordered : goal.kept-requires-clause-ordered
kept-requires-clause-ordered c =
    let lt : c.in-Folder.i < length c.args.nodes.now = search rules in
    subst (λ (es : List Entry). AreOrdered (texts c.args.names.now) es) (sym c.in_ok-copy-in-Folder.ensures.items)
    (node-ordered c.args.names.now c.args.nodes.now c.in-Folder.i c.index-nodes-i.result c.requires.good lt c.index-nodes-i.is)

pub returns-in_ok-copy-in-Folder-clause-good : goal.returns-in_ok-copy-in-Folder-clause-good
returns-in_ok-copy-in-Folder-clause-good c =
    let names = c.args.names.now in
    let nodes = c.args.nodes.now in
    let own = c.index-nodes-i.result in
    let at = tree_at names nodes in
    let lt : c.in-Folder.i < length c.args.nodes.now = search rules in
    let same = sym c.in_ok-copy-in-Folder.ensures.items in
    let sound = subst (λ (es : List Entry). IsSound (forest_of (texts names) at es)) same (node-sound names nodes c.in-Folder.i own c.requires.good lt c.index-nodes-i.is) in
    let good = subst (λ (es : List Entry). AreGood (length names) (length nodes) es) same (entries-good names nodes c.in-Folder.i own c.requires.good.arena lt c.index-nodes-i.is) in
    if_ok c.kept.result (λ p e. subst (λ (es : List Entry). AreGood (length names) (length nodes) es) (sym e) (without-good (texts names) c.args.name.now (length names) (length nodes) c.in_ok-copy-in-Folder.copy.items good)) (c.kept.ensures at sound)

pub returns-in_ok-copy-in-Folder-clause-forest : goal.returns-in_ok-copy-in-Folder-clause-forest
returns-in_ok-copy-in-Folder-clause-forest c =
    let names = c.args.names.now in
    let nodes = c.args.nodes.now in
    let own = c.index-nodes-i.result in
    let at = tree_at names nodes in
    let lt : c.in-Folder.i < length c.args.nodes.now = search rules in
    let same = sym c.in_ok-copy-in-Folder.ensures.items in
    let sound = subst (λ (es : List Entry). IsSound (forest_of (texts names) at es)) same (node-sound names nodes c.in-Folder.i own c.requires.good lt c.index-nodes-i.is) in
    let tree = tree-node names nodes c.in-Folder.i own c.requires.good.arena lt c.index-nodes-i.is in
    rw (c.in-Some.is, c.in-Folder.is) (if_ok c.kept.result (λ p e. ap (forest_of (texts names) at) e ∙ forest-without (texts names) c.args.name.now at c.in_ok-copy-in-Folder.copy.items ∙ ap (λ (es : List Entry). without c.args.name.now (forest_of (texts names) at es)) c.in_ok-copy-in-Folder.ensures.items ∙ ap (without c.args.name.now) (sym tree)) (c.kept.ensures at sound))
