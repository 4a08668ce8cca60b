use Rattle.std.proofs.Common.{length, ap, ◌∙◌}
use Rattle.swh_fastlex.specs.Path.{components}
use Rattle.swh_forest.specs.Arena.{stands_of, tree_at}
use Rattle.swh_forest.specs.Forest.{forest}
use Rattle.swh_forest.specs.Roots.{root_forest}
use Rattle.swh_folders.proofs.Closings.{found-here}
use Rattle.swh_folders.proofs.opened.taken.Goals as goal

pub find-there-requires-clause-root : goal.find-there-requires-clause-root
find-there-requires-clause-root c = c.root_of-here.ensures.inside (length c.args.nodes.now) c.requires.root

pub entries_here-requires-in-None : goal.entries_here-requires-in-None
entries_here-requires-in-None c = c.root_of-here.ensures.inside (length c.args.nodes.now) c.requires.root

pub returns-in_ok-path-in-Some-clause-own : goal.returns-in_ok-path-in-Some-clause-own
returns-in_ok-path-in-Some-clause-own c =
    let names = c.args.names.now in
    let nodes = c.args.nodes.now in
    let at = tree_at names nodes in
    let p = components c.in-Some.folder.now in
    let there = rw (c.as_slice.ensures.value, c.in_ok-parts-in-Some.ensures) at c.find-there.ensures.found in
    rw c.in-Some.is (c.in_ok-node-in-Some.ensures.forest names c.requires.good ∙ ap forest there ∙ found-here p (stands_of at c.root_of-here.result) (root_forest at c.args.root) (c.root_of-here.ensures.same at))
