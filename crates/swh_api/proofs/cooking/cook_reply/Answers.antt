use Rattle.swh_api.proofs.Cooks.{named_told}
use Rattle.swh_api.proofs.cooking.cook_reply.Goals as goal

pub returns : goal.returns
returns g c = named_told (g.L.Look.archive c.args.look.now).bodies c.args.text.now c.in-Some.name c.told.result c.in-Some.ensures.some c.told.ensures
