use Rattle.swh_graph.specs.Path.{directory_name}
use Rattle.swh_pathwalk.proofs.Walks.{not_missing}
use Rattle.swh_pathwalk.proofs.walking.begin.Goals as goal

pub unreachable-requires : goal.unreachable-requires
unreachable-requires g c =
    let gap = rw c.in-Err-NotHeld.field-0-is at c.in-Err-NotHeld.ensures.err in
    not_missing (g.L.Look.archive c.args.look.now).bodies (g.L.Graph.children_of c.args.look.now) c.is_graph.ensures c.args.order.now c.requires.order.some (directory_name c.args.directory) c.requires.there gap.1
