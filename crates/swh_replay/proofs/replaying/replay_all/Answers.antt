use Rattle.std.proofs.Common.{rules, ◌≡◌, ◌+◌, ◌≤◌, true, false, List, [], ◌∷◌, ◌++◌, take, drop, length, sym, ap, ◌∙◌, subst, append_assoc, arith}
use Rattle.std.proofs.lemmas.List.{take-append-drop, length-take-le}
use Rattle.std.specs.List.{AllByRecursion}
use Rattle.swh_base.specs.declared.entry.Entry.{Entry}
use Rattle.swh_model.specs.declared.event.Event.{Event}
use Rattle.swh_model.specs.Archive.{Archive, empty_archive}
use Rattle.swh_model.specs.Step.{HasItsChildren, IsHistory, after, replay}
use Rattle.swh_model.specs.Happens.{IsNamedEvent, CanHappen}
use Rattle.swh_model.proofs.PlainLists.{take-more, all-at}
use Rattle.swh_model.proofs.PlainSteps.{can_may, may_can, may-push, after-push}
use Rattle.swh_replay.proofs.Collected.{all_good, come_later}
use Rattle.swh_replay.proofs.replaying.replay_all.Goals as goal

pub of-requires : goal.of-requires
of-requires c = subst (λ (es : List Entry). AllByRecursion HasItsChildren es) (sym c.in_ok-entries.ensures) (all_good c.args.events.now c.requires.good)

pub returns-then-not-branch-clause-refused : goal.returns-then-not-branch-clause-refused
returns-then-not-branch-clause-refused c = λ id_of named.
    let h = c.args.events.now in
    let i = c.loop-place.place in
    let e = c.index-events-place.result in
    let less = c.loop-place-test.true in
    let no : c.in_ok-happen.field-0 ≡ false = search rules in
    let more = take-more h i e less c.index-events-place.is in
    record {
      before = take i h;
      event = e;
      more = drop (i + 1) h;
      are = sym (take-append-drop (i + 1) h) ∙ ap (λ (l : List Event). l ++ drop (i + 1) h) more ∙ append_assoc (take i h) (e ∷ []) (drop (i + 1) h);
      number_is = let within : i ≤ length h = omega (arith, less) in ap (λ n. n + 1) (sym (length-take-le i h within));
      history = c.loop-place.invariant.may id_of named;
      may_not = λ may.
          c.in_ok-happen.ensures.no no
          (subst (λ (a : Archive). CanHappen a e) (sym c.loop-place.invariant.archive_is) (may_can id_of (replay (take i h)) e may));
    }

pub loop-place-preserved : goal.loop-place-preserved
loop-place-preserved c =
    let h = c.args.events.now in
    let i = c.loop-place.place in
    let e = c.index-events-place.result in
    let less = c.loop-place-test.true in
    let yes : c.in_ok-happen.field-0 ≡ true = search rules in
    let more = take-more h i e less c.index-events-place.is in
    let here = c.in_ok-happen.ensures.yes yes in
    record {
      archive_is = here.now ∙ ap (λ (a : Archive). after a e) c.loop-place.invariant.archive_is
          ∙ sym (ap (λ (g : List Event). replay g) more ∙ after-push empty_archive (take i h) e);
      rest_is = c.in_ok-happen.ensures.rest yes ∙ come_later h i e less c.index-events-place.is c.loop-place.preloaded.rest c.loop-place.invariant.rest_is;
      may = λ id_of named.
          subst (λ (g : List Event). IsHistory id_of g) (sym more)
          (may-push id_of empty_archive (take i h) e (c.loop-place.invariant.may id_of named)
          (can_may id_of (replay (take i h)) e (all-at (IsNamedEvent id_of) h i e named less c.index-events-place.is)
          (subst (λ (a : Archive). CanHappen a e) c.loop-place.invariant.archive_is here.can)));
      whole = c.in_ok-happen.ensures.whole yes;
    }
