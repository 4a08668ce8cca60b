use Rattle.std.proofs.Common.{◌≡◌, ◌≤◌, List, length, sym, ◌∙◌, subst}
use Rattle.std.specs.List.{AllByRecursion}
use Rattle.swh_model.specs.declared.event.Event.{Event}
use Rattle.swh_model.specs.Happens.{IsNamedEvent}
use Rattle.swh_model.specs.Step.{IsHistory}
use Rattle.swh_replay.specs.Replay.{IsReplayOf, IsReplayFault, IsFirstRefused}
use Rattle.swh_keeper.specs.Damage.{IfDamagedAt, IsRefusedEvent}
use Rattle.swh_keeper.proofs.DamageLemmas.{events_named, first_some, first_among, refused_at}
use Rattle.swh_keeper.proofs.replaying.replay_records.Goals as goal

pub refused-requires-clause-some : goal.refused-requires-clause-some
refused-requires-clause-some g c =
    let id_of = g.N.Namer.id_of in
    let same : c.as_slice.result.now ≡ c.args.history.items = c.as_slice.ensures.value in
    let named = subst (λ (l : List Event). AllByRecursion (IsNamedEvent id_of) l) (sym same) (events_named id_of c.args.history.items c.requires.good) in
    let refused : IsFirstRefused id_of c.as_slice.result.now c.in-Refused.event = subst (IsReplayFault id_of c.as_slice.result.now) c.in-Refused.is (c.in-Err.ensures.refused id_of named) in
    first_some id_of c.as_slice.result.now c.in-Refused.event refused

pub refused-requires-clause-among : goal.refused-requires-clause-among
refused-requires-clause-among g c =
    let id_of = g.N.Namer.id_of in
    let same : c.as_slice.result.now ≡ c.args.history.items = c.as_slice.ensures.value in
    let named = subst (λ (l : List Event). AllByRecursion (IsNamedEvent id_of) l) (sym same) (events_named id_of c.args.history.items c.requires.good) in
    let refused : IsFirstRefused id_of c.as_slice.result.now c.in-Refused.event = subst (IsReplayFault id_of c.as_slice.result.now) c.in-Refused.is (c.in-Err.ensures.refused id_of named) in
    subst (λ (l : List Event). c.in-Refused.event ≤ length l) (c.as_slice.ensures.value ∙ sym c.as_slice-in-Refused.ensures.value) (first_among id_of c.as_slice.result.now c.in-Refused.event refused)

pub returns-clause-refused : goal.returns-clause-refused
returns-clause-refused g c =
    let id_of = g.N.Namer.id_of in
    let same : c.as_slice.result.now ≡ c.args.history.items = c.as_slice.ensures.value in
    let named = subst (λ (l : List Event). AllByRecursion (IsNamedEvent id_of) l) (sym same) (events_named id_of c.args.history.items c.requires.good) in
    let refused : IsFirstRefused id_of c.as_slice.result.now c.in-Refused.event = subst (IsReplayFault id_of c.as_slice.result.now) c.in-Refused.is (c.in-Err.ensures.refused id_of named) in
    let again : c.as_slice-in-Refused.result.now ≡ c.args.history.items = c.as_slice-in-Refused.ensures.value in
    let here : IsFirstRefused id_of c.as_slice-in-Refused.result.now c.in-Refused.event = subst (λ (l : List Event). IsFirstRefused id_of l c.in-Refused.event) (same ∙ sym again) refused in
    subst (λ (l : List Event). IfDamagedAt c.refused.result (IsRefusedEvent id_of l)) again (refused_at id_of c.as_slice-in-Refused.result.now c.in-Refused.event c.refused.result here c.refused.ensures.at)

pub returns-in-Ok-clause-whole : goal.returns-in-Ok-clause-whole
returns-in-Ok-clause-whole g c =
    let id_of = g.N.Namer.id_of in
    let same : c.as_slice.result.now ≡ c.args.history.items = c.as_slice.ensures.value in
    let named = subst (λ (l : List Event). AllByRecursion (IsNamedEvent id_of) l) (sym same) (events_named id_of c.args.history.items c.requires.good) in
    record {
      history = subst (λ (l : List Event). IsHistory id_of l) same (c.in-Ok.ensures.history id_of named);
      replay = subst (λ (l : List Event). IsReplayOf c.in-Ok.replayed l) same c.in-Ok.ensures.replay;
      in_files = c.in-Ok.ensures.fits;
    }
