use Rattle.std.proofs.Common.{◌+◌, ℕ, ap, ◌∙◌, arith}
use Rattle.swh_rows.specs.Slots.{mark_at}
use Rattle.swh_rows.proofs.SlotLemmas.{none-next}
use Rattle.swh_rows.proofs.slots.tell_all.Goals as goal

pub loop-step-preserved : goal.loop-step-preserved
loop-step-preserved g c =
    let slots = c.args.slots.now in
    let step = c.loop-step.step in
    none-next slots (g.R.Rows.names c.args.rows.now) c.args.name.now step c.loop-step.invariant
    (λ place led there. c.in-Nothing.ensures place (ap (λ (slot : ℕ). mark_at slots (slot + step)) c.slot_of-first.ensures.slot ∙ led) there)

pub returns : goal.returns
returns g c = λ step less place led there. let past = c.loop-step-test.false in c.loop-step.invariant step (omega (arith, less, past)) place led there
