use Rattle.swh_graph.proofs.Bodies.{no_bad_directory}
use Rattle.swh_graph.proofs.reading.directory_at.Goals as goal

pub unreachable-requires : goal.unreachable-requires
unreachable-requires g c =
    let bad = c.in-Err-Bad.field-0-0 in
    let fault = rw c.as_slice.ensures at (rw c.in-Err-Bad.field-0-is at c.in-Err-Bad.ensures.err) in
    no_bad_directory (g.L.Look.archive c.args.look.now).bodies (g.L.Graph.children_of c.args.look.now) c.is_graph.ensures c.args.name c.in-Some.body.now c.in-Some.ensures.held c.requires bad.at bad.why fault
