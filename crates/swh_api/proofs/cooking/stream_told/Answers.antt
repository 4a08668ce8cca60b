use Rattle.swh_api.proofs.Cooks.{refused_told, text_told}
use Rattle.swh_api.proofs.cooking.stream_told.Goals as goal

pub returns-in-Err : goal.returns-in-Err
returns-in-Err g c = refused_told (g.L.Look.archive c.args.look.now).bodies c.args.name c.in-Err.fault c.cook_fault_reply.result c.in-Err.ensures.err c.cook_fault_reply.ensures

pub returns : goal.returns
returns g c = text_told (g.L.Look.archive c.args.look.now).bodies c.args.name c.in-Ok.text.items c.in_ok-body.body c.in-Ok.ensures.ok c.in_ok-body.ensures.ok
