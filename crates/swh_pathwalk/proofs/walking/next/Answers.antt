use Rattle.swh_pathwalk.proofs.Walks.{no_gap}
use Rattle.swh_pathwalk.proofs.walking.next.Goals as goal

pub unreachable-requires : goal.unreachable-requires
unreachable-requires g c =
    let gap = rw c.in-Err-NotHeld.field-0-is at c.in-Err-NotHeld.ensures.err in
    no_gap (g.L.Look.archive c.args.look.now).bodies (g.L.Graph.children_of c.args.look.now) c.is_graph.ensures c.args.order.now c.requires.order.some c.args.walk.now c.in-Err-NotHeld.field-0-0 c.requires.leads gap
