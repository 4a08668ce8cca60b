use Rattle.std.proofs.Common.{◌+◌, Option, ℕ, List, [], ◌∷◌, ◌++◌, get_or, sym, ap, ◌∙◌, subst}
use Rattle.swh_model.specs.declared.event.Event.{Event}
use Rattle.swh_model.specs.Archive.{empty_archive}
use Rattle.swh_model.specs.Limits.{records_length}
use Rattle.swh_model.specs.Step.{IsHistory}
use Rattle.swh_model.proofs.PlainSteps.{may-push}
use Rattle.swh_format.specs.Stands.{StandsFor}
use Rattle.swh_core.specs.Kept.{MayStand}
use Rattle.swh_core.proofs.Caught.{not_so, so}
use Rattle.swh_core.proofs.Standing.{gate_tells_with, gate_tells_without}
use Rattle.swh_core.proofs.crashing.history_left.Goals as goal

pub returns-then-not-is_open_at-clause-stands : goal.returns-then-not-is_open_at-clause-stands
returns-then-not-is_open_at-clause-stands c images is may =
    let h = c.args.history.now in
    let there = subst (λ (m : Option Event). MayStand h m images) c.in-Some.is may in
    subst (StandsFor (images 0) (images 1)) (sym c.in_ok-left.ensures)
    (gate_tells_without h c.in-Some.event images there (λ e. not_so c.is_open_at.result c.if-not-is_open_at.true (c.is_open_at.ensures.1 (ap (λ (k : ℕ). get_or c.args.ledger.now k 0) c.in_ok-gate.ensures ∙ ap (λ (l : List ℕ). get_or l (8 + records_length h) 0) (sym is) ∙ e))))

pub returns-clause-stands : goal.returns-clause-stands
returns-clause-stands c images is may =
    let h = c.args.history.now in
    let there = subst (λ (m : Option Event). MayStand h m images) c.in-Some.is may in
    subst (StandsFor (images 0) (images 1)) (sym (c.in_ok-push.ensures.ok ∙ ap (λ (es : List Event). es ++ c.in_ok-joined.joined ∷ []) c.in_ok-left.ensures ∙ ap (λ (e : Event). c.args.history.now ++ e ∷ []) c.in_ok-joined.ensures))
    (gate_tells_with h c.in-Some.event images there (ap (λ (l : List ℕ). get_or l (8 + records_length h) 0) is ∙ sym (ap (λ (k : ℕ). get_or c.args.ledger.now k 0) c.in_ok-gate.ensures) ∙ c.is_open_at.ensures.0 (so c.is_open_at.result c.if-not-is_open_at.false)))

pub returns-clause-history : goal.returns-clause-history
returns-clause-history c id_of history may =
    subst (IsHistory id_of) (sym (c.in_ok-push.ensures.ok ∙ ap (λ (es : List Event). es ++ c.in_ok-joined.joined ∷ []) c.in_ok-left.ensures ∙ ap (λ (e : Event). c.args.history.now ++ e ∷ []) c.in_ok-joined.ensures))
    (may-push id_of empty_archive c.args.history.now c.in-Some.event history (may c.in-Some.event c.in-Some.is))
