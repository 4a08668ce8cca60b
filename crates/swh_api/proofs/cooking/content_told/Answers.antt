use Rattle.swh_api.proofs.Cooks.{missing_told, content_answer, text_told}
use Rattle.swh_api.proofs.cooking.content_told.Goals as goal

pub returns-in_default : goal.returns-in_default
returns-in_default g c =
    missing_told (g.L.Look.archive c.args.look.now).bodies (g.L.Graph.children_of c.args.look.now) c.is_graph.ensures c.args.name c.not_held.result c.in_default.ensures.not_held c.not_held.ensures

pub returns : goal.returns
returns g c =
    let bodies = (g.L.Look.archive c.args.look.now).bodies in
    text_told bodies c.args.name c.in-Some.held.now c.in_ok-body.body
    (content_answer bodies (g.L.Graph.children_of c.args.look.now) c.is_graph.ensures c.args.name c.requires c.in-Some.held.now c.in-Some.ensures.held c.is_of_bytes.ensures) c.in_ok-body.ensures
