use Rattle.std.proofs.Common.{List, take, sym, ap, subst, arith}
use Rattle.swh_model.specs.declared.event.Event.{Event}
use Rattle.swh_model.specs.Entries.{entries_of}
use Rattle.swh_model.specs.Limits.{run_length}
use Rattle.swh_model.proofs.PlainLengths.{store-next, store-within}
use Rattle.swh_model.proofs.PlainLists.{take-more}
use Rattle.swh_model.proofs.Visits.{all-push}
use Rattle.swh_keeper.specs.Places.{IsUnnamed, AreUnnamed}
use Rattle.swh_keeper.proofs.finding.place_of.Goals as goal

pub place_in-requires : goal.place_in-requires
place_in-requires c =
    let there = store-within c.args.history.now c.loop-event.event-index c.event-item.result c.loop-event-test.true c.event-item.is in
    let at = c.loop-event.invariant.at in
    let fits = c.requires in
    let run = ap run_length c.entries.ensures in
    omega (arith, there, at, fits, run)

pub overflow_add-at : goal.overflow_add-at
overflow_add-at c =
    let there = store-within c.args.history.now c.loop-event.event-index c.event-item.result c.loop-event-test.true c.event-item.is in
    let at = c.loop-event.invariant.at in
    let size = c.in-Ok.ensures in
    let fits = c.requires in
    omega (arith, there, at, size, fits)

pub unreachable-requires : goal.unreachable-requires
unreachable-requires c =
    let there = store-within c.args.history.now c.loop-event.event-index c.event-item.result c.loop-event-test.true c.event-item.is in
    let beyond = c.in_default-length_in_store.ensures in
    let fits = c.requires in
    absurd (omega (arith, there, beyond, fits))

pub loop-event-preserved : goal.loop-event-preserved
loop-event-preserved c =
    let h = c.args.history.now in
    let i = c.loop-event.event-index in
    let e = c.event-item.result in
    let next = store-next h i e c.loop-event-test.true c.event-item.is in
    let at = c.loop-event.invariant.at in
    let size = c.in-Ok.ensures in
    record {
      at = omega (arith, next, at, size);
      none =
          subst (λ (g : List Event). AreUnnamed c.args.name.now g) (sym (take-more h i e c.loop-event-test.true c.event-item.is))
          (all-push (λ (f : Event). IsUnnamed c.args.name.now (entries_of f.what)) (take i h) e c.loop-event.invariant.none
          (subst (IsUnnamed c.args.name.now) c.entries.ensures c.in_default.ensures.none));
    }
