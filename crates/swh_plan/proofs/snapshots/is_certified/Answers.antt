use Rattle.std.proofs.Common.{rules, ◌≡◌, subst}
use Rattle.swh_model.specs.Archive.{IsClosed}
use Rattle.swh_store.specs.Stored.{children_in}
use Rattle.swh_plan.proofs.SnapshotLemmas.{closed_from_nothing}
use Rattle.swh_plan.proofs.snapshots.is_certified.Goals as goal

pub returns-in-Ok : goal.returns-in-Ok
returns-in-Ok c _ =
    let root : c.args.cert.now.root ≡ c.args.name.now = search rules in
    subst (IsClosed c.args.store.now.bodies) root
    (closed_from_nothing c.args.store.now.bodies (children_in c.args.store.now) c.new-nothing.result c.args.cert.now.root c.is_graph.ensures c.new-nothing.ensures c.in-Ok.ensures.closed)
