use Rattle.std.proofs.Common.{◌≢◌, ◌∷◌, ◌++◌, [], sym, ◌∙◌, refl}
use Rattle.swh_forest.specs.Arena.{tree_at}
use Rattle.swh_entries.specs.Keys.{texts}
use Rattle.swh_forest.specs.Forest.{Nothing, child_at, flat}
use Rattle.swh_folders.specs.Opened.{folder_path, own_forest, open_forest}
use Rattle.swh_forest.proofs.Arenas.{if_ok3}
use Rattle.swh_folders.proofs.Changes.{names-with, delete-in, delete-nothing}
use Rattle.swh_forest.proofs.EditedRoots.{some-stands}
use Rattle.swh_folders.proofs.Openings.{stands-own}
use Rattle.swh_forest.proofs.Orders.{ordered}
use Rattle.swh_forest.proofs.Keeping.{among-self, kept-none}
use Rattle.swh_folders.proofs.opened.deleted_here.Goals as goal

pub child_in-requires-clause-ordered : goal.child_in-requires-clause-ordered
child_in-requires-clause-ordered c =
    let names = c.args.folders.now.names.items in
    let nodes = c.args.folders.now.nodes.items in
    rw c.as_slice.ensures.value (ordered (texts names) (tree_at names nodes) c.args.opened.node.items c.requires.opened.sound)

pub returns-in-Some-clause-map : goal.returns-in-Some-clause-map
returns-in-Some-clause-map c =
    let names = c.args.folders.now.names.items in
    let nodes = c.args.folders.now.nodes.items in
    let o = c.args.opened in
    let name = c.args.name.now in
    let there = (rw c.as_slice.ensures.value at c.in-Some.ensures.child) (tree_at names nodes) c.requires.opened.sound in
    let some : child_at name (own_forest names nodes o) ≢ Nothing = λ e. some-stands (tree_at names nodes) c.in-Some._child (there ∙ e) in
    if_ok3 c.edited.result (λ o' root path own. delete-in c.args.folders.now c.edited.new.folders o o' (flat (open_forest names nodes o)) (folder_path o.path ++ name ∷ []) name c.requires.good c.edited.ensures.names c.edited.ensures.nodes (stands-own names nodes o c.requires.good c.requires.opened) refl (names-with (folder_path o.path) name c.requires.opened.path c.requires.name) some root path own)
    c.edited.ensures.root c.edited.ensures.path c.edited.ensures.own

pub returns-in-None-clause-map : goal.returns-in-None-clause-map
returns-in-None-clause-map c =
    let names = c.args.folders.now.names.items in
    let nodes = c.args.folders.now.nodes.items in
    let none = (rw c.as_slice.ensures.value at c.in-None.ensures.child) (tree_at names nodes) c.requires.opened.sound in
    delete-nothing c.args.folders.now c.args.opened c.args.name.now c.requires.good c.requires.opened c.requires.name (sym none)

pub returns-in-None-clause-kept : goal.returns-in-None-clause-kept
returns-in-None-clause-kept c = among-self (texts c.args.folders.now.names.items)

pub returns-in-Some-clause-kept : goal.returns-in-Some-clause-kept
returns-in-Some-clause-kept c = kept-none (texts c.args.folders.now.names.items) (texts c.edited.new.folders.names.items) c.edited.ensures.kept
