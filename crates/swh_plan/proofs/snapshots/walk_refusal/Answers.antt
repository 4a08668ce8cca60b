use Rattle.swh_store.specs.Stored.{children_in}
use Rattle.swh_plan.proofs.SnapshotLemmas.{closed_from_nothing, child_missing}
use Rattle.swh_plan.proofs.snapshots.walk_refusal.Goals as goal

pub returns-in-Ok-clause-none : goal.returns-in-Ok-clause-none
returns-in-Ok-clause-none c =
    closed_from_nothing c.args.store.now.bodies (children_in c.args.store.now) c.new-nothing.result c.args.name c.is_graph.ensures c.new-nothing.ensures c.in-Ok.ensures.closed

pub returns-in-Err-Missing-Some-default-clause-some : goal.returns-in-Err-Missing-Some-default-clause-some
returns-in-Err-Missing-Some-default-clause-some c =
    let at = c.in-Err-Missing-Some-default in
    child_missing c.args.store.now.bodies (children_in c.args.store.now) c.args.name at.parent at.child at.field-0 c.is_graph.ensures (cc) at.ensures.missing
