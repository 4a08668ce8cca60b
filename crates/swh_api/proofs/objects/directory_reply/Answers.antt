use Rattle.std.proofs.Common.{refl, subst}
use Rattle.swh_base.specs.declared.kind.Kind.TheVariants as kind
use Rattle.swh_base.specs.declared.name.Name.{Name}
use Rattle.swh_dirfmt.specs.Entries.{entries_in_body}
use Rattle.swh_graph.specs.Answer.{Refuses}
use Rattle.swh_graph.specs.Holding.{HoldsDirectory}
use Rattle.swh_replies.specs.Json.{directory_data}
use Rattle.swh_api.specs.Answer.{IsRead}
use Rattle.swh_api.proofs.Told.{named, read_refuses, fault_by_id, found_by_id}
use Rattle.swh_api.proofs.objects.directory_reply.Goals as goal

pub returns-in-Err : goal.returns-in-Err
returns-in-Err g c =
    let bodies = (g.L.Look.archive c.args.look.now).bodies in
    let id = c.in-Some.ensures.some in
    let refuses = read_refuses HoldsDirectory bodies c.in-Some.name c.in-Err.fault c.in-Err.ensures.err in
    fault_by_id kind.Directory (IsRead HoldsDirectory bodies) (λ _. directory_data) c.args.text.now c.in-Some.name.id c.in-Err.fault c.fault_reply.result id.1
    (subst (λ (n : Name). Refuses (IsRead HoldsDirectory bodies n) c.in-Err.fault) (named kind.Directory c.in-Some.name id.0) refuses) c.fault_reply.ensures

pub returns : goal.returns
returns g c =
    let bodies = (g.L.Look.archive c.args.look.now).bodies in
    let id = c.in-Some.ensures.some in
    let entries = entries_in_body c.in-Ok.entries.items in
    found_by_id kind.Directory (IsRead HoldsDirectory bodies) (λ _. directory_data) c.args.text.now c.in-Some.name.id entries (directory_data entries) c.entries_reply.result id.1
    (subst (λ (n : Name). HoldsDirectory bodies n entries) (named kind.Directory c.in-Some.name id.0) c.in-Ok.ensures.ok) refl (rw c.as_slice.ensures.value at c.entries_reply.ensures)
