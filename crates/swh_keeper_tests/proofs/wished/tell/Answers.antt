use Rattle.std.proofs.Common.{List, refl, sym, subst, Ok}
use Rattle.swh_model.specs.declared.event.Event.{Event}
use Rattle.swh_model.specs.Judge.{IsVerdict}
use Rattle.swh_model.specs.Step.{IsHistory, after, replay}
use Rattle.swh_keeper_tests.proofs.wished.tell.Goals as goal

pub returns-in_ok-push-in-Ok : goal.returns-in_ok-push-in-Ok
returns-in_ok-push-in-Ok g c =
    let id_of = g.N.Namer.id_of in
    let h = c.args.history.now.items in
    let event = c.in-Ok.event in
    let verdict = subst (λ (l : List Event). IsVerdict l c.args.by c.args.wish.now (Ok (event, c.in-Ok.outcome))) c.as_slice.ensures.value c.in-Ok.ensures.ok in
    let may = c.judged_events_may_happen.ensures id_of h c.args.by c.args.wish.now event c.in-Ok.outcome c.requires.wish verdict in
    let longer = c.steps_extend_histories.ensures id_of h event (after (replay h) event) c.requires.history (may, refl) in
    subst (IsHistory id_of) (sym c.in_ok-push-in-Ok.ensures.items) longer.0
