use Rattle.std.proofs.Common.{rules, ◌<◌, sym, ap, ◌∙◌, length}
use Rattle.swh_forest.specs.Forest.{child_at}
use Rattle.swh_forest.specs.Arena.{tree_at}
use Rattle.swh_forest.proofs.Arenas.{tree-node, entries-good, names-in_range}
use Rattle.swh_forest.proofs.Ordering.{node-sound, node-ordered}
use Rattle.swh_forest.proofs.arena.step.Goals as goal

pub child_in-requires-clause-names : goal.child_in-requires-clause-names
child_in-requires-clause-names c =
    let lt : c.in-Folder.i < length c.args.nodes.now = search rules in
    names-in_range (length c.args.names.now) (length c.args.nodes.now) c.index-nodes-i.result.items (entries-good c.args.names.now c.args.nodes.now c.in-Folder.i c.index-nodes-i.result c.requires.good.arena lt c.index-nodes-i.is)

pub child_in-requires-clause-ordered : goal.child_in-requires-clause-ordered
child_in-requires-clause-ordered c =
    let lt : c.in-Folder.i < length c.args.nodes.now = search rules in
    node-ordered c.args.names.now c.args.nodes.now c.in-Folder.i c.index-nodes-i.result c.requires.good lt c.index-nodes-i.is

pub returns-in-Folder-clause-inside : goal.returns-in-Folder-clause-inside
returns-in-Folder-clause-inside c =
    let lt : c.in-Folder.i < length c.args.nodes.now = search rules in
    c.child_in.ensures.inside (length c.args.names.now) (length c.args.nodes.now) (entries-good c.args.names.now c.args.nodes.now c.in-Folder.i c.index-nodes-i.result c.requires.good.arena lt c.index-nodes-i.is)

pub returns-in-Folder-clause-child : goal.returns-in-Folder-clause-child
returns-in-Folder-clause-child c =
    let lt : c.in-Folder.i < length c.args.nodes.now = search rules in
    let sound = node-sound c.args.names.now c.args.nodes.now c.in-Folder.i c.index-nodes-i.result c.requires.good lt c.index-nodes-i.is in
    rw (c.in-Some.is, c.in-Folder.is) (c.child_in.ensures.child (tree_at c.args.names.now c.args.nodes.now) sound ∙ ap (child_at c.args.name.now) (sym (tree-node c.args.names.now c.args.nodes.now c.in-Folder.i c.index-nodes-i.result c.requires.good.arena lt c.index-nodes-i.is)))
