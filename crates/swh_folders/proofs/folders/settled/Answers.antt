use Rattle.std.proofs.Common.{◌∙◌, ◌≤◌, ap, take, length, arith}
use Rattle.swh_folders.proofs.Workings.{stays-cut}
use Rattle.swh_folders.proofs.Lives.{arena-lower}
use Rattle.swh_folders.proofs.folders.settled.Goals as goal

pub compact-there-requires-clause-lower : goal.compact-there-requires-clause-lower
compact-there-requires-clause-lower c = rw c.is_full.ensures.nodes (arena-lower c.args.folders.now.names.items c.args.folders.now.nodes.items c.requires.good.arena)

pub returns-in_default-clause-stays : goal.returns-in_default-clause-stays
returns-in_default-clause-stays c =
    let names = c.count_from.ensures.names ∙ c.is_full.ensures.names in
    let nodes = c.count_from.ensures.nodes ∙ c.truncate.ensures.items ∙ ap (take c.args.base) c.is_full.ensures.nodes in
    let base : c.args.base ≤ length c.args.folders.now.nodes.items = let from = c.requires.tallied.from in let up = c.requires.tallied.up_to in omega arith in
    stays-cut c.args.base c.args.folders.now c.count_from.new.folders base c.requires.good names nodes
