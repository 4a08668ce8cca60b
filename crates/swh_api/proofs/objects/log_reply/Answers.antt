use Rattle.std.proofs.Common.{ap, ◌∙◌}
use Rattle.swh_base.specs.declared.kind.Kind.TheVariants as kind
use Rattle.swh_graph.specs.Log.{IsLogAnswer}
use Rattle.swh_replies.specs.Json.{log_data}
use Rattle.swh_replies.proofs.Values.{log-no_float}
use Rattle.swh_api.specs.Answer.{log_limit}
use Rattle.swh_api.proofs.Told.{fault_by_id, found_by_id}
use Rattle.swh_api.proofs.objects.log_reply.Goals as goal

pub returns-in-Err : goal.returns-in-Err
returns-in-Err g c =
    let bodies = (g.L.Look.archive c.args.look.now).bodies in
    let id = c.in-Some.ensures.some in
    fault_by_id kind.Revision (λ root. IsLogAnswer bodies root log_limit) (λ _. log_data) c.args.text.now c.in-Some.name.id c.in-Err.fault c.fault_reply.result id.1 c.in-Err.ensures.err c.fault_reply.ensures

pub json_reply-requires : goal.json_reply-requires
json_reply-requires g c = rw c.in_ok-value.ensures (log-no_float c.as_slice.result.now)

pub returns : goal.returns
returns g c =
    let bodies = (g.L.Look.archive c.args.look.now).bodies in
    let id = c.in-Some.ensures.some in
    found_by_id kind.Revision (λ root. IsLogAnswer bodies root log_limit) (λ _. log_data) c.args.text.now c.in-Some.name.id c.in-Ok.names.items _ c.json_reply.result id.1 c.in-Ok.ensures.ok (c.in_ok-value.ensures ∙ ap log_data c.as_slice.ensures.value) c.json_reply.ensures
