use Rattle.std.proofs.Common.{rules, ◌<◌, List, length, sym, ap, subst, ◌∙◌}
use Rattle.swh_entries.specs.declared.entry.Entry.{Entry}
use Rattle.swh_forest.specs.Arena.{forest_of, tree_at, AreGood}
use Rattle.swh_entries.specs.Keys.{texts}
use Rattle.swh_forest.proofs.Arenas.{if_ok, tree-node, entries-good}
use Rattle.swh_folders.proofs.opened.entries_here.Goals as goal

pub returns-in-Folder-clause-good : goal.returns-in-Folder-clause-good
returns-in-Folder-clause-good c = λ names good.
    let lt : c.in-Folder.number < length c.args.nodes.now = search rules in
    if_ok c.again.result (λ p is. subst (λ (es : List Entry). AreGood (length names) (length c.args.nodes.now) es) (sym is) (entries-good names c.args.nodes.now c.in-Folder.number c.index-nodes-number.result good.arena lt c.index-nodes-number.is)) c.again.ensures.items

pub returns-in-Folder-clause-forest : goal.returns-in-Folder-clause-forest
returns-in-Folder-clause-forest c = λ names good.
    let lt : c.in-Folder.number < length c.args.nodes.now = search rules in
    rw (c.in-Some.is, c.in-Folder.is) (if_ok c.again.result (λ p is. ap (forest_of (texts names) (tree_at names c.args.nodes.now)) is ∙ sym (tree-node names c.args.nodes.now c.in-Folder.number c.index-nodes-number.result good.arena lt c.index-nodes-number.is)) c.again.ensures.items)
