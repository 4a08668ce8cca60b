use Rattle.std.proofs.Common.{refl}
use Rattle.swh_model.proofs.Batches.{not_true}
use Rattle.swh_model.proofs.PlainSteps.{suits_fit, refused_unfit}
use Rattle.swh_model.proofs.standing.fits_status.Goals as goal

pub returns-in-Some : goal.returns-in-Some
returns-in-Some c =
    let refusal = rw c.in-Some.is at c.in_ok-snapshot_refusal.ensures.some in (
      λ t. not_true t,
      λ fits. absurd (refused_unfit c.args.state.now.bodies c.args.status c.args.snapshot.now c.in-Some.field-0 refusal fits),
    )

pub returns-in-None : goal.returns-in-None
returns-in-None c =
    let suits = rw c.in-None.is at c.in_ok-snapshot_refusal.ensures.none in
    (λ _. suits_fit c.args.state.now.bodies c.args.status c.args.snapshot.now (c.if-not-status_allows.ensures.0 refl) suits, λ _. refl)
