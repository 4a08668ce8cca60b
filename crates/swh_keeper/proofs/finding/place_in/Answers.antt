use Rattle.std.proofs.Common.{◌≡◌, ◌≢◌, true, false, List, length, sym, ap, subst, arith}
use Rattle.swh_base.specs.declared.entry.Entry.{Entry}
use Rattle.swh_model.proofs.PlainLengths.{run-next, run-within}
use Rattle.swh_model.proofs.PlainLists.{take-more}
use Rattle.swh_model.proofs.Visits.{all-push}
use Rattle.swh_keeper.specs.Places.{IsUnnamed}
use Rattle.swh_keeper.proofs.finding.place_in.Goals as goal

pub overflow_add-body : goal.overflow_add-body
overflow_add-body c =
    let there = run-within c.args.entries.now c.loop-entry.entry-index c.entry-item.result c.loop-entry-test.true c.entry-item.is in
    let at = c.loop-entry.invariant.at in
    let head = c.head_length.ensures.value in
    let fits = c.requires in
    omega (arith, there, at, head, fits)

pub overflow_add-at : goal.overflow_add-at
overflow_add-at c =
    let there = run-within c.args.entries.now c.loop-entry.entry-index c.entry-item.result c.loop-entry-test.true c.entry-item.is in
    let at = c.loop-entry.invariant.at in
    let head = c.head_length.ensures.value in
    let size = ap length c.as_slice-size.ensures in
    let fits = c.requires in
    omega (arith, there, at, head, size, fits)

pub loop-entry-preserved : goal.loop-entry-preserved
loop-entry-preserved c =
    let es = c.args.entries.now in
    let i = c.loop-entry.entry-index in
    let e = c.entry-item.result in
    let next = run-next es i e c.loop-entry-test.true c.entry-item.is in
    let at = c.loop-entry.invariant.at in
    let head = c.head_length.ensures.value in
    let size = ap length c.as_slice-size.ensures in
    record {
      at = omega (arith, next, at, head, size);
      none =
          subst (λ (fs : List Entry). IsUnnamed c.args.name.now fs) (sym (take-more es i e c.loop-entry-test.true c.entry-item.is))
          (all-push (λ (f : Entry). f.name ≢ c.args.name.now) _ e c.loop-entry.invariant.none (λ same. let f : false ≡ true = c.if-is_same.ensures.1 same in cc));
    }
