use Rattle.std.proofs.Common.{refl, subst}
use Rattle.swh_base.specs.declared.kind.Kind.TheVariants as kind
use Rattle.swh_base.specs.declared.name.Name.{Name}
use Rattle.swh_snpfmt.specs.Branches.{branches_in_body}
use Rattle.swh_graph.specs.Answer.{Refuses}
use Rattle.swh_graph.specs.Holding.{HoldsSnapshot}
use Rattle.swh_replies.specs.Json.{snapshot_data}
use Rattle.swh_api.specs.Answer.{IsRead}
use Rattle.swh_api.proofs.Told.{named, read_refuses, fault_by_id, found_by_id}
use Rattle.swh_api.proofs.objects.snapshot_reply.Goals as goal

pub returns-in-Err : goal.returns-in-Err
returns-in-Err g c =
    let bodies = (g.L.Look.archive c.args.look.now).bodies in
    let id = c.in-Some.ensures.some in
    let refuses = read_refuses HoldsSnapshot bodies c.in-Some.name c.in-Err.fault c.in-Err.ensures.err in
    fault_by_id kind.Snapshot (IsRead HoldsSnapshot bodies) snapshot_data c.args.text.now c.in-Some.name.id c.in-Err.fault c.fault_reply.result id.1
    (subst (λ (n : Name). Refuses (IsRead HoldsSnapshot bodies n) c.in-Err.fault) (named kind.Snapshot c.in-Some.name id.0) refuses) c.fault_reply.ensures

pub returns : goal.returns
returns g c =
    let bodies = (g.L.Look.archive c.args.look.now).bodies in
    let id = c.in-Some.ensures.some in
    let branches = branches_in_body c.in-Ok.branches.items in
    found_by_id kind.Snapshot (IsRead HoldsSnapshot bodies) snapshot_data c.args.text.now c.in-Some.name.id branches (snapshot_data c.in-Some.name.id branches) c.branches_reply.result id.1
    (subst (λ (n : Name). HoldsSnapshot bodies n branches) (named kind.Snapshot c.in-Some.name id.0) c.in-Ok.ensures.ok) refl (rw c.as_slice.ensures.value at c.branches_reply.ensures)
