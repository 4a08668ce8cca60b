use Rattle.std.proofs.lemmas.Result.{on_ok_weaker}
use Rattle.swh_pathsums.proofs.Kept.{of_name, there_as}
use Rattle.swh_pathsums.proofs.sums.add_name.Goals as goal

pub add_directory-requires-clause-there : goal.add_directory-requires-clause-there
add_directory-requires-clause-there g c = there_as c.args.order.now c.args.name c.in-Directory.is c.requires.there

pub returns-in-Directory : goal.returns-in-Directory
returns-in-Directory g c =
    on_ok_weaker c.add_directory.result (of_name (g.L.Look.archive c.args.look.now).bodies (g.W.Weigh.weight_of c.args.weigher.now) c.args.sums.now c.add_directory.new.sums c.args.name) c.add_directory.ensures
