use Rattle.swh_pathwalk.proofs.Walks.{not_missing}
use Rattle.swh_fastcook.proofs.ends.branches_of.Goals as goal

pub unreachable-requires : goal.unreachable-requires
unreachable-requires g c =
    let gap = rw c.in-Err-NotHeld.field-0-is at c.in-Err-NotHeld.ensures.err in
    not_missing (g.L.Look.archive c.args.look.now).bodies (g.L.Graph.children_of c.args.look.now) c.is_graph.ensures c.args.marks.now c.requires.order c.args.root c.requires.there gap.1
