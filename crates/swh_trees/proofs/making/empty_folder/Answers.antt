use Rattle.std.proofs.Common.{rules, ◌≡◌, length, refl}
use Rattle.swh_folders.proofs.Workings.{stays-pushed, tallied-pushed, tree-pushed}
use Rattle.swh_trees.proofs.making.empty_folder.Goals as goal

pub returns-in_ok-push-in-None-clause-stays : goal.returns-in_ok-push-in-None-clause-stays
returns-in_ok-push-in-None-clause-stays c = stays-pushed c.args.base c.args.folders.now _ c.none.result c.requires.tallied c.requires.good c.none.ensures.items refl c.in_ok-push-in-None.ensures.items

pub returns-in_ok-push-in-None-clause-bare : goal.returns-in_ok-push-in-None-clause-bare
returns-in_ok-push-in-None-clause-bare c =
    let number : c.len-number.result ≡ length c.args.folders.now.nodes.items = search rules in
    rw (c.in_ok-push-in-None.ensures.items, number) (tree-pushed c.args.folders.now.names.items c.args.folders.now.nodes.items c.none.result c.none.ensures.items)

pub returns-in_ok-push-in-None-clause-tallied : goal.returns-in_ok-push-in-None-clause-tallied
returns-in_ok-push-in-None-clause-tallied c = tallied-pushed c.args.base c.args.folders.now _ c.none.result c.requires.tallied c.in_ok-push-in-None.ensures.items refl refl
