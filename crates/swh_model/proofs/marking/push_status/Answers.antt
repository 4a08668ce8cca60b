use Rattle.swh_model.proofs.Visits.{marked-set}
use Rattle.swh_model.proofs.marking.push_status.Goals as goal

pub returns-clause-ok : goal.returns-clause-ok
returns-clause-ok c =
    marked-set c.args.visits.now.items c.args.place c.index_mut.result.now (record c.index_mut.result.now { statuses = c.push.new.self }) c.args.status c.args.snapshot
    c.requires c.index_mut.ensures.value (λ i. record c.index_mut.result.now { statuses = c.in_ok-push.ensures.ok i })
