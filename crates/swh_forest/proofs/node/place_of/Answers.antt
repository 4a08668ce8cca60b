use Rattle.std.proofs.Common.{◌≤◌, length, ap, arith}
use Rattle.swh_entries.specs.declared.entry.Gap.{Gap}
use Rattle.swh_entries.specs.Keys.{texts}
use Rattle.swh_forest.proofs.Gaps.{name-before}
use Rattle.swh_forest.proofs.Orders.{nowhere}
use Rattle.swh_forest.proofs.Options.{none-of}
use Rattle.swh_forest.proofs.node.place_of.Goals as goal

pub place_before-requires : goal.place_before-requires
place_before-requires c =
    let gap = c.above-behind_file.result in
    name-before (length c.args.names.now) c.args.node.now.items gap.before gap.place c.requires.names (ap (λ (g : Gap). g.before) c.above-behind_file.ensures.gap)

pub place_before-requires-2 : goal.place_before-requires-2
place_before-requires-2 c =
    let gap = c.above-behind_folder.result in
    name-before (length c.args.names.now) c.args.node.now.items gap.before gap.place c.requires.names (ap (λ (g : Gap). g.before) c.above-behind_folder.ensures.gap)

pub returns-in-None-clause-none : goal.returns-in-None-clause-none
returns-in-None-clause-none c =
    let es = c.args.node.now.items in
    let file = c.above-behind_file.result in
    let folder = c.above-behind_folder.result in
    let first : file.place ≤ length es = c.above-behind_file.ensures.above.within in
    let second : folder.place ≤ length es = c.above-behind_folder.ensures.above.within in
    nowhere (texts c.args.names.now) c.args.name.now es file.place folder.place c.requires.ordered c.above-behind_file.ensures.above c.above-behind_folder.ensures.above
    (λ k d next. none-of c.place_before.result c.in_default.not-Some (c.place_before.ensures.none es c.above-behind_file.ensures.gap) k d (omega arith) next)
    (λ k d next. c.in-None.ensures.none es c.above-behind_folder.ensures.gap k d (omega arith) next)
