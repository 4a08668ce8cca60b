use Rattle.swh_postorder.proofs.Preceded.{none_found}
use Rattle.swh_postorder.proofs.cycles.first_on_cycle.Goals as goal

pub returns-then-are_seen_preceded-clause-none : goal.returns-then-are_seen_preceded-clause-none
returns-then-are_seen_preceded-clause-none g c =
    none_found (g.G.Graph.children_of c.args.graph.now) c.args.order.now c.requires (c.are_seen_preceded.ensures c.if-are_seen_preceded.true)
