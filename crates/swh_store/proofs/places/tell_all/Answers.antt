use Rattle.std.proofs.Common.{◌+◌, ℕ, ap, ◌∙◌, arith}
use Rattle.swh_store.specs.Places.{mark_at}
use Rattle.swh_store.proofs.PlaceLemmas.{none-next}
use Rattle.swh_store.proofs.places.tell_all.Goals as goal

pub loop-step-preserved : goal.loop-step-preserved
loop-step-preserved c =
    let slots = c.args.slots.now in
    let step = c.loop-step.step in
    none-next slots c.args.entries.now c.args.name.now step c.loop-step.invariant
    (λ place led named. c.in-Nothing.ensures place (ap (λ (slot : ℕ). mark_at slots (slot + step)) c.slot_of-first.ensures.slot ∙ led) named)

pub returns : goal.returns
returns c = λ step less place led named. let past = c.loop-step-test.false in c.loop-step.invariant step (omega (arith, less, past)) place led named
