use Rattle.swh_api.proofs.Told.{fault_by_swhid, found_by_swhid}
use Rattle.swh_api.proofs.objects.resolve_reply.Goals as goal

pub returns-in-Err : goal.returns-in-Err
returns-in-Err g c =
    let bodies = (g.L.Look.archive c.args.look.now).bodies in
    fault_by_swhid bodies c.args.text.now c.in-Some.swhid c.in-Err.fault c.fault_reply.result (rw c.in-Some.is at c.in_ok-found.ensures.some) c.in-Err.ensures.err c.fault_reply.ensures

pub returns : goal.returns
returns g c =
    let bodies = (g.L.Look.archive c.args.look.now).bodies in
    found_by_swhid bodies c.args.text.now c.in-Some.swhid c.in-Ok.name _ c.json_reply.result (rw c.in-Some.is at c.in_ok-found.ensures.some) c.in-Ok.ensures.ok c.in_ok-value.ensures c.json_reply.ensures
