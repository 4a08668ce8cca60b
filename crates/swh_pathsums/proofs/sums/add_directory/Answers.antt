use Rattle.swh_pathsums.proofs.Kept.{gets}
use Rattle.swh_pathsums.proofs.sums.add_directory.Goals as goal

pub returns : goal.returns
returns g c =
    gets (g.L.Look.archive c.args.look.now).bodies (g.W.Weigh.weight_of c.args.weigher.now) c.args.sums.now c.insert.new.self c.args.directory c.in_ok-tally.tally c.in_ok-tally.ensures c.in_ok-insert.ensures.updates.0
