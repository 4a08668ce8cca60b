use Rattle.swh_api.proofs.Gets.{told}
use Rattle.swh_api.proofs.get.reply_to_get.Goals as goal

pub returns-clause-text : goal.returns-clause-text
returns-clause-text g c = told (g.L.Look.archive c.args.look.now) c.args.path.now _ c.reply.result c.in_ok-request.ensures c.reply.ensures
