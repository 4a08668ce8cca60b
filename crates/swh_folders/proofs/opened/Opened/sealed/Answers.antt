use Rattle.std.proofs.Common.{length, ap, ◌∙◌}
use Rattle.swh_forest.specs.Arena.{stands_of, forest_of, tree_at}
use Rattle.swh_entries.specs.Keys.{texts}
use Rattle.swh_forest.specs.Forest.{Stands, folder, forest, graft}
use Rattle.swh_fastlex.specs.Path.{components}
use Rattle.swh_forest.specs.Roots.{root_forest}
use Rattle.swh_folders.proofs.Closings.{graft-here, root-grown}
use Rattle.swh_forest.proofs.Walks.{grows-more}
use Rattle.swh_folders.proofs.Workings.{below-grown}
use Rattle.swh_forest.proofs.Keeping.{among-left}
use Rattle.swh_folders.specs.Opened.{folder_path}
use Rattle.swh_folders.proofs.opened.Opened.sealed.Goals as goal

pub returns-in_err-child-clause-grows : goal.returns-in_err-child-clause-grows
returns-in_err-child-clause-grows c = c.seal.ensures.grows c.args.names.now.items

pub returns-in_err-parts-in-Some-clause-grows : goal.returns-in_err-parts-in-Some-clause-grows
returns-in_err-parts-in-Some-clause-grows c = c.seal.ensures.grows c.args.names.now.items

pub graft-requires-clause-root : goal.graft-requires-clause-root
graft-requires-clause-root c = c.root_of.ensures.inside (length c.seal.new.nodes.items) (below-grown c.args.names.now.items c.args.names.now.items c.args.nodes.now.items c.seal.new.nodes.items c.args.self.root c.requires.opened.root (c.seal.ensures.grows c.args.names.now.items))

pub returns-in_err-there-in-Some-clause-grows : goal.returns-in_err-there-in-Some-clause-grows
returns-in_err-there-in-Some-clause-grows c = grows-more c.args.names.now.items c.args.names.now.items c.graft.new.names.items c.args.nodes.now.items c.seal.new.nodes.items c.graft.new.nodes.items (c.seal.ensures.grows c.args.names.now.items) c.graft.ensures.grows

pub returns-in_ok-there-in-Some-clause-grows : goal.returns-in_ok-there-in-Some-clause-grows
returns-in_ok-there-in-Some-clause-grows c = grows-more c.args.names.now.items c.args.names.now.items c.graft.new.names.items c.args.nodes.now.items c.seal.new.nodes.items c.graft.new.nodes.items (c.seal.ensures.grows c.args.names.now.items) c.graft.ensures.grows

pub returns-in_ok-there-in-Some-clause-inside : goal.returns-in_ok-there-in-Some-clause-inside
returns-in_ok-there-in-Some-clause-inside c = c.number_of.ensures.inside (length c.graft.new.nodes.items) c.in_ok-there-in-Some.ensures.inside

pub returns-in_ok-there-in-Some-clause-forest : goal.returns-in_ok-there-in-Some-clause-forest
returns-in_ok-there-in-Some-clause-forest c =
    let names = c.args.names.now.items in
    let nodes = c.args.nodes.now.items in
    let mid = tree_at names c.seal.new.nodes.items in
    let last = tree_at c.graft.new.names.items c.graft.new.nodes.items in
    let p = components c.in-Some.path.items in
    let own = forest_of (texts names) (tree_at names nodes) c.args.self.node.items in
    let grafted = rw (c.as_slice-in-Some.ensures.value, c.in_ok-parts-in-Some.ensures, c.as_slice.ensures.value) at c.in_ok-there-in-Some.ensures.graft in
    let here = c.root_of.ensures.same mid ∙ root-grown names names nodes c.seal.new.nodes.items c.args.self.root c.requires.opened.root (c.seal.ensures.grows names) in
    rw c.in-Some.is (c.number_of.ensures.same last ∙ ap forest (grafted
    ∙ ap (λ (x : Stands). graft p x (stands_of mid c.root_of.result)) (c.in_ok-child.ensures.folder names)
    ∙ graft-here p (folder own) (stands_of mid c.root_of.result) (root_forest (tree_at names nodes) c.args.self.root) here))

pub returns-in-None-clause-grows : goal.returns-in-None-clause-grows
returns-in-None-clause-grows c = c.seal.ensures.grows c.args.names.now.items

pub returns-in-None-clause-inside : goal.returns-in-None-clause-inside
returns-in-None-clause-inside c = c.number_of-in-None.ensures.inside (length c.seal.new.nodes.items) c.in_ok-child.ensures.inside

pub returns-in_err-child-clause-kept : goal.returns-in_err-child-clause-kept
returns-in_err-child-clause-kept c = among-left (texts c.args.names.now.items) (folder_path c.args.self.path)

pub returns-in_err-parts-in-Some-clause-kept : goal.returns-in_err-parts-in-Some-clause-kept
returns-in_err-parts-in-Some-clause-kept c = among-left (texts c.args.names.now.items) (folder_path c.args.self.path)

pub returns-in-None-clause-kept : goal.returns-in-None-clause-kept
returns-in-None-clause-kept c = among-left (texts c.args.names.now.items) (folder_path c.args.self.path)

pub returns-in_err-there-in-Some-clause-kept : goal.returns-in_err-there-in-Some-clause-kept
returns-in_err-there-in-Some-clause-kept c = rw c.in-Some.is (rw (c.as_slice-in-Some.ensures.value, c.in_ok-parts-in-Some.ensures, c.as_slice.ensures.value) at c.graft.ensures.kept)

pub returns-in_ok-there-in-Some-clause-kept : goal.returns-in_ok-there-in-Some-clause-kept
returns-in_ok-there-in-Some-clause-kept c = rw c.in-Some.is (rw (c.as_slice-in-Some.ensures.value, c.in_ok-parts-in-Some.ensures, c.as_slice.ensures.value) at c.graft.ensures.kept)
