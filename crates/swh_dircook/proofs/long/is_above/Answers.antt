use Rattle.swh_graph.specs.Path.{directory_name}
use Rattle.swh_dircook.proofs.Paths.{root_there, held_order}
use Rattle.swh_dircook.proofs.Sums.{test_is}
use Rattle.swh_pathsums.specs.Lengths.{rows_length}
use Rattle.swh_dircook.proofs.long.is_above.Goals as goal

pub length_under-requires-clause-order : goal.length_under-requires-clause-order
length_under-requires-clause-order g c = held_order (g.L.Graph.children_of c.args.look.now) (directory_name c.args.directory) c.args.order.now c.requires.order c.requires.acyclic

pub length_under-requires-clause-there : goal.length_under-requires-clause-there
length_under-requires-clause-there g c = root_there (g.L.Graph.children_of c.args.look.now) (directory_name c.args.directory) c.args.order.now c.requires.order
