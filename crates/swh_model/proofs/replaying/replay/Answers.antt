use Rattle.std.proofs.Common.{◌≡◌, true, List, take, sym, ap, ◌∙◌, subst}
use Rattle.swh_model.specs.declared.event.Event.{Event}
use Rattle.swh_model.specs.Archive.{Archive, empty_archive}
use Rattle.swh_model.specs.Step.{IsHistory, after, replay}
use Rattle.swh_model.specs.Happens.{IsNamedEvent, CanHappen}
use Rattle.swh_model.proofs.PlainLists.{take-more, all-at}
use Rattle.swh_model.proofs.PlainSteps.{can_may, may_can, can_there, may-push, may-at, after-push}
use Rattle.swh_model.proofs.replaying.replay.Goals as goal

pub returns-then-not-branch-clause-none : goal.returns-then-not-branch-clause-none
returns-then-not-branch-clause-none c = λ id_of is_history.
    let e = c.event-item.result in
    let may = may-at id_of empty_archive c.args.history.now c.loop-event.event-index e c.loop-event-test.true c.event-item.is is_history in
    let can = subst (λ (a : Archive). CanHappen a e) (sym c.loop-event.invariant.archive_is) (may_can id_of (replay (take c.loop-event.event-index c.args.history.now)) e may) in
    let t : c.in_ok-may_happen.field-0 ≡ true = c.in_ok-may_happen.ensures.1 can in
    let f = c.if-not-branch.true in cc

pub happen-requires-clause-there : goal.happen-requires-clause-there
happen-requires-clause-there c = can_there c.loop-event.state c.event-item.result (c.in_ok-may_happen.ensures.0 c.if-not-branch.false)

pub loop-event-preserved : goal.loop-event-preserved
loop-event-preserved c =
    let h = c.args.history.now in
    let i = c.loop-event.event-index in
    let e = c.event-item.result in
    let more = take-more h i e c.loop-event-test.true c.event-item.is in
    record {
      archive_is = c.in_ok-happen.ensures ∙ ap (λ (a : Archive). after a e) c.loop-event.invariant.archive_is
          ∙ sym (ap (λ (g : List Event). replay g) more ∙ after-push empty_archive (take i h) e);
      may = λ id_of named.
          subst (λ (g : List Event). IsHistory id_of g) (sym more)
          (may-push id_of empty_archive (take i h) e (c.loop-event.invariant.may id_of named)
          (can_may id_of (replay (take i h)) e (all-at (IsNamedEvent id_of) h i e named c.loop-event-test.true c.event-item.is)
          (subst (λ (a : Archive). CanHappen a e) c.loop-event.invariant.archive_is (c.in_ok-may_happen.ensures.0 c.if-not-branch.false))));
    }
