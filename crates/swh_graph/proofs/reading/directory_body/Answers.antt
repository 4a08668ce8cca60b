use Rattle.std.proofs.Common.{sym, subst}
use Rattle.swh_graph.specs.Named.{IsDirectoryHeld}
use Rattle.swh_graph.proofs.Bodies.{directory_held}
use Rattle.swh_graph.proofs.reading.directory_body.Goals as goal

pub returns-in-Some-clause-ok : goal.returns-in-Some-clause-ok
returns-in-Some-clause-ok g c =
    subst (IsDirectoryHeld (g.L.Look.archive c.args.look.now).bodies c.args.name) (sym c.as_slice.ensures)
    (directory_held (g.L.Look.archive c.args.look.now).bodies (g.L.Graph.children_of c.args.look.now) c.is_graph.ensures c.args.name c.in-Some.body.now c.in-Some.ensures.held c.requires)
