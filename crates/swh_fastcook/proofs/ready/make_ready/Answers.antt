use Rattle.swh_fastcook.proofs.Acyclic.{all_preceded}
use Rattle.swh_fastcook.proofs.ready.make_ready.Goals as goal

pub find_uncarried-requires-clause-preceded : goal.find_uncarried-requires-clause-preceded
find_uncarried-requires-clause-preceded g c = all_preceded (g.L.Graph.children_of c.args.look.now) c.args.root c.in-Ok.marks c.in-Ok.ensures.ok c.in-Ok.ensures.acyclic
