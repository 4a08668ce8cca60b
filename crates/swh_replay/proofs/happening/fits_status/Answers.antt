use Rattle.std.proofs.Common.{ℕ, Option, Some, List, sym, subst}
use Rattle.std.specs.Prelude.{IfOk, IsTrue, ◌↔◌}
use Rattle.swh_base.specs.declared.name.Name.{Name}
use Rattle.swh_base.specs.declared.visit.Status.{Status}
use Rattle.swh_model.specs.Archive.{IsClosed}
use Rattle.swh_model.specs.Step.{FitsStatus}
use Rattle.swh_replay.proofs.happening.fits_status.Goals as goal

pub returns-in-Full-Some-clause-fits : goal.returns-in-Full-Some-clause-fits
returns-in-Full-Some-clause-fits c =
    let bodies = c.args.preloaded.now.shown.bodies in
    let closed = subst (λ (n : Name). IfOk c.is_closed.result (λ yes. IsTrue yes ↔ IsClosed bodies n)) c.name_of.ensures c.is_closed.ensures.value in
    subst (λ (o : Option (List ℕ)). IfOk c.is_closed.result (λ yes. IsTrue yes ↔ FitsStatus bodies c.args.status o)) (sym c.in-Full-Some.is-1)
    (subst (λ (s : Status). IfOk c.is_closed.result (λ yes. IsTrue yes ↔ FitsStatus bodies s (Some c.in-Full-Some.id))) (sym c.in-Full-Some.is-0) closed)
