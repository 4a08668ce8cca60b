use Rattle.std.proofs.Common.{subst}
use Rattle.swh_base.specs.declared.kind.Kind.TheVariants as kind
use Rattle.swh_base.specs.declared.name.Name.{Name}
use Rattle.swh_revfmt.specs.Reading.{release_spelled}
use Rattle.swh_graph.specs.Answer.{Refuses}
use Rattle.swh_graph.specs.Holding.{HoldsRelease}
use Rattle.swh_replies.specs.Json.{release_data}
use Rattle.swh_api.specs.Answer.{IsRead}
use Rattle.swh_api.proofs.Told.{named, read_refuses, fault_by_id, found_by_id}
use Rattle.swh_api.proofs.objects.release_reply.Goals as goal

pub returns-in-Err : goal.returns-in-Err
returns-in-Err g c =
    let bodies = (g.L.Look.archive c.args.look.now).bodies in
    let id = c.in-Some.ensures.some in
    let refuses = read_refuses HoldsRelease bodies c.in-Some.name c.in-Err.fault c.in-Err.ensures.err in
    fault_by_id kind.Release (IsRead HoldsRelease bodies) release_data c.args.text.now c.in-Some.name.id c.in-Err.fault c.fault_reply.result id.1
    (subst (λ (n : Name). Refuses (IsRead HoldsRelease bodies n) c.in-Err.fault) (named kind.Release c.in-Some.name id.0) refuses) c.fault_reply.ensures

pub returns : goal.returns
returns g c =
    let bodies = (g.L.Look.archive c.args.look.now).bodies in
    let id = c.in-Some.ensures.some in
    found_by_id kind.Release (IsRead HoldsRelease bodies) release_data c.args.text.now c.in-Some.name.id (release_spelled c.in-Ok.rel) _ c.json_reply.result id.1
    (subst (λ (n : Name). HoldsRelease bodies n (release_spelled c.in-Ok.rel)) (named kind.Release c.in-Some.name id.0) c.in-Ok.ensures.ok) (c.in_ok-value.ensures) c.json_reply.ensures
