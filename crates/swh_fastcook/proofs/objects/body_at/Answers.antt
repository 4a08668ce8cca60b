use Rattle.swh_pathwalk.proofs.Walks.{not_missing}
use Rattle.swh_fastcook.proofs.objects.body_at.Goals as goal

pub unreachable-requires : goal.unreachable-requires
unreachable-requires g c =
    not_missing (g.L.Look.archive c.args.look.now).bodies (g.L.Graph.children_of c.args.look.now) c.is_graph.ensures c.args.marks.now c.requires.order c.args.name.now c.requires.there c.in-None.ensures.not_held
