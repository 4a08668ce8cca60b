use Rattle.std.proofs.Common.{[], ◌∷◌, ◌++◌, map, sym}
use Rattle.swh_dirfmt.specs.Entries.{entry_of}
use Rattle.swh_pathwalk.specs.Tree.{row_at}
use Rattle.swh_pathsums.specs.Tallies.{row_behind}
use Rattle.swh_pathsums.proofs.Kept.{of_file, of_folder}
use Rattle.swh_pathsums.proofs.sums.entry_tally.Goals as goal

pub returns-then-entry-ne-FOLDER : goal.returns-then-entry-ne-FOLDER
returns-then-entry-ne-FOLDER g c bodies rows known are =
    let e = entry_of c.args.entry.now in
    of_file bodies (g.W.Weigh.weight_of c.args.weigher.now) e c.of_row-own.result (λ is. c.if-entry-ne-FOLDER.true is)
    (c.of_row-own.ensures (g.W.Weigh.weight_of c.args.weigher.now) (row_at [] e) (sym c.weigh.ensures) c.spell-name.ensures) rows are

pub returns : goal.returns
returns g c bodies rows known are =
    let e = entry_of c.args.entry.now in
    let weigh = g.W.Weigh.weight_of c.args.weigher.now in
    of_folder bodies weigh c.args.sums.now e c.tally_at.result c.both.result c.if-entry-ne-FOLDER.false c.tally_at.ensures (known c.if-entry-ne-FOLDER.false)
    (λ inner is. c.both.ensures weigh (row_at [] e ∷ []) (map (row_behind (e.name ++ 47 ∷ [])) inner)
    (c.of_row-own.ensures weigh (row_at [] e) (sym c.weigh.ensures) c.spell-name.ensures) (c.behind.ensures weigh e.name inner c.spell-name.ensures is)) rows are
