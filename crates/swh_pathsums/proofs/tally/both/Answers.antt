use Rattle.swh_pathsums.proofs.RowSums.{tallies_both}
use Rattle.swh_pathsums.proofs.tally.both.Goals as goal

pub returns : goal.returns
returns c weigh xs ys first further =
    tallies_both weigh xs ys c.args.first c.args.further _ first further c.plus.ensures c.plus-2.ensures c.plus-3.ensures c.plus-4.ensures
