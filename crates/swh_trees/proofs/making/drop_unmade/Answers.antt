use Rattle.std.proofs.Common.{◌≤◌, ◌∙◌, length, sym, ap, arith}
use Rattle.swh_folders.proofs.Workings.{stays-cut}
use Rattle.swh_trees.proofs.Bounds.{cut-long, none-cost}
use Rattle.swh_trees.proofs.making.drop_unmade.Goals as goal

pub count_from-requires : goal.count_from-requires
count_from-requires c =
    let from = c.requires.tallied.from in
    let up = c.requires.tallied.up_to in
    let long = cut-long c.args.made c.args.folders.now.nodes.items (omega arith) in
    rw c.truncate.ensures.items (omega (arith, long))

pub returns-clause-stays : goal.returns-clause-stays
returns-clause-stays c =
    let from = c.requires.tallied.from in
    let up = c.requires.tallied.up_to in
    let base : c.args.made ≤ length c.args.folders.now.nodes.items = omega arith in
    stays-cut c.args.made c.args.folders.now c.count_from.new.folders base c.requires.good c.count_from.ensures.names (c.count_from.ensures.nodes ∙ c.truncate.ensures.items)

pub returns-clause-all : goal.returns-clause-all
returns-clause-all c =
    let from = c.requires.tallied.from in
    let up = c.requires.tallied.up_to in
    let long = cut-long c.args.made c.args.folders.now.nodes.items (omega arith) in
    sym (ap length (c.count_from.ensures.nodes ∙ c.truncate.ensures.items) ∙ long)

pub returns-clause-most : goal.returns-clause-most
returns-clause-most c =
    let from = c.requires.tallied.from in
    let up = c.requires.tallied.up_to in
    let long = ap length (c.count_from.ensures.nodes ∙ c.truncate.ensures.items) ∙ cut-long c.args.made c.args.folders.now.nodes.items (omega arith) in
    let most = c.count_from.ensures.most in
    omega (arith, long, most)

pub returns-clause-room : goal.returns-clause-room
returns-clause-room c =
    let from = c.requires.tallied.from in
    let up = c.requires.tallied.up_to in
    let long = ap length (c.count_from.ensures.nodes ∙ c.truncate.ensures.items) ∙ cut-long c.args.made c.args.folders.now.nodes.items (omega arith) in
    let none = none-cost c.args.made c.count_from.new.folders long in
    let room = c.count_from.ensures.room in
    omega (arith, none, room)
