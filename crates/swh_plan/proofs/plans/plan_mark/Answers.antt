use Rattle.std.proofs.Common.{◌≡◌, length, ap, subst, arith}
use Rattle.swh_model.specs.declared.event.EventKind.{EventKind}
use Rattle.swh_model.specs.declared.event.EventKind.TheVariants.{Mark}
use Rattle.swh_model.specs.Judge.{FilePasses}
use Rattle.swh_model.specs.Judged.{NonePasses}
use Rattle.swh_plan.specs.Plan.{status_of, snapshot_of}
use Rattle.swh_plan.proofs.PlanLemmas.{mark_verdict, mark_refused}
use Rattle.swh_plan.proofs.plans.plan_mark.Goals as goal

pub returns-in-Some-2-clause-err : goal.returns-in-Some-2-clause-err
returns-in-Some-2-clause-err c h is =
    let how = c.args.how in
    let status = c.mark-status.ensures.status in
    let snapshot = c.mark-status.ensures.snapshot in
    let marks : Mark c.args.origin c.args.visit c.mark-status.result.0 c.mark-status.result.1 ≡ Mark c.args.origin c.args.visit (status_of how) (snapshot_of how) = λ i. Mark c.args.origin c.args.visit (status i) (snapshot i) in
    let files = subst (λ (e : EventKind). NonePasses (FilePasses h e)) marks (c.in_ok-bytes.ensures.ok h is) in
    let may = rw c.in_default.is at c.mark_visit_refusal-refusal.ensures.none in
    mark_refused c.args.replayed.now h c.args.by c.args.origin c.args.visit (status_of how) (snapshot_of how) c.in-Some-2.cause is files may (rw c.in-Some-2.is at c.in_ok-cause.ensures.some)

pub returns-clause-ok : goal.returns-clause-ok
returns-clause-ok c h is number =
    let how = c.args.how in
    let b = c.in_ok-bytes.ensures.bytes in
    let status = c.mark-status.ensures.status in
    let snapshot = c.mark-status.ensures.snapshot in
    let marks : Mark c.args.origin c.args.visit c.mark-status.result.0 c.mark-status.result.1 ≡ Mark c.args.origin c.args.visit (status_of how) (snapshot_of how) = λ i. Mark c.args.origin c.args.visit (status i) (snapshot i) in
    let files = subst (λ (e : EventKind). NonePasses (FilePasses h e)) marks (c.in_ok-bytes.ensures.ok h is) in
    let may = rw c.in_default.is at c.mark_visit_refusal-refusal.ensures.none in
    let suits = rw c.in_default-2.is at c.in_ok-cause.ensures.none in
    let verdict = mark_verdict c.args.replayed.now h c.args.by c.args.number c.args.origin c.args.visit (status_of how) (snapshot_of how) is number files may suits in
    record {
      verdict = (verdict.0, (λ i. record { by = c.args.by; what = marks i }), verdict.2);
      run_is = c.new.ensures.items;
      record_is = b.are;
      codable = b.codable;
      store_fits = let f = b.store_fits in let e = ap length c.new.ensures.items in omega (arith, f, e);
      ledger_fits = b.ledger_fits;
    }
