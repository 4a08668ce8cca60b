use Rattle.std.proofs.Common.{◌≡◌, length, sym, ap, ◌∙◌, subst, arith}
use Rattle.std.specs.List.{AllByRecursion}
use Rattle.swh_format.specs.StoredObject.{coded_run, IsCodableEntry}
use Rattle.swh_model.proofs.Refusals.{few_fresh}
use Rattle.swh_plan.proofs.PlanLemmas.{batch_verdict, batch_collision}
use Rattle.swh_plan.proofs.plans.plan_entries.Goals as goal

pub overflow_cast-new : goal.overflow_cast-new
overflow_cast-new c =
    let few = few_fresh c.args.replayed.now.store.bodies c.args.entries.now c.in_ok-split.split.fresh.items c.in_ok-split.ensures.fresh c.in_default.ensures.none in
    let e = ap length c.as_slice.ensures.value in omega (arith, few, e)

pub encode-requires-clause-codable : goal.encode-requires-clause-codable
encode-requires-clause-codable c =
    let run_is : c.in_ok-run.run'.items ≡ coded_run c.from_vec.result = c.in_ok-run.ensures ∙ ap coded_run (c.deref-2.ensures.value ∙ sym c.from_vec.ensures) in
    let small = c.in_ok-run.run'.small in
    let long = c.deref-3.ensures.len in
    let same = ap length c.deref-3.ensures.value in
    let run_long = ap length run_is in
    let end_fits = c.requires.in_files.store_fits in
    let few = few_fresh c.args.replayed.now.store.bodies c.args.entries.now c.in_ok-split.split.fresh.items c.in_ok-split.ensures.fresh c.in_default.ensures.none in
    let count = ap length c.from_vec.ensures in (
      c.ranges.by.fits,
      record {
        entries_codable = subst (AllByRecursion IsCodableEntry) (c.deref.ensures.value ∙ sym c.from_vec.ensures) c.entries_are_codable.ensures;
        number = omega (arith, few, count);
        end = omega (arith, small, long, same, run_long, end_fits);
      },
    )

pub returns-in-Some-collision-clause-err : goal.returns-in-Some-collision-clause-err
returns-in-Some-collision-clause-err c h is =
    batch_collision c.args.replayed.now h c.args.by c.args.entries.now c.from_vec.result c.in-Some-collision.name is (c.from_vec.ensures ∙ c.in_ok-split.ensures.fresh) c.in_default.ensures.none
    (c.in_ok-bytes.ensures.ok h is) (rw c.in-Some-collision.is at c.in_ok-split.ensures.some)

pub returns-clause-ok : goal.returns-clause-ok
returns-clause-ok c h is number =
    let b = c.in_ok-bytes.ensures.bytes in
    record {
      verdict = batch_verdict c.args.replayed.now h c.args.by c.args.number (length c.as_slice.result.now) c.args.entries.now c.from_vec.result is number (c.from_vec.ensures ∙ c.in_ok-split.ensures.fresh)
          (ap length (c.as_slice.ensures.value ∙ sym c.from_vec.ensures)) c.in_default.ensures.none (c.in_ok-bytes.ensures.ok h is) (rw c.in_default-collision.is at c.in_ok-split.ensures.none);
      run_is = c.in_ok-run.ensures ∙ ap coded_run (c.deref-2.ensures.value ∙ sym c.from_vec.ensures);
      record_is = b.are;
      codable = b.codable;
      store_fits = let f = b.store_fits in let e = ap length c.deref-3.ensures.value in omega (arith, f, e);
      ledger_fits = b.ledger_fits;
    }
