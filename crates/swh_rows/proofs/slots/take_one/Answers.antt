use Rattle.std.proofs.Common.{◌≡◌, ◌+◌, ℕ, suc, List, sym, ap, ◌∙◌, arith}
use Rattle.swh_rows.specs.Slots.{slot_of, mark_at, mark_behind}
use Rattle.swh_rows.proofs.SlotLemmas.{stay_twice, behind-same, taken-stay, taken-next}
use Rattle.swh_rows.proofs.slots.take_one.Goals as goal
use Rattle.swh_rows.proofs.slots.take_one.Goals.{then-near, else-near}

pub returns-then-near-2-clause-stay : goal.returns-then-near-2-clause-stay
returns-then-near-2-clause-stay c =
    stay_twice c.args.slots.now.items c.loop-step.slots.items c.take_slot-took.new.slots.items c.loop-step.invariant.stay c.take_slot-took.ensures.stay

pub returns-then-near-2-clause-led : goal.returns-then-near-2-clause-led
returns-then-near-2-clause-led c = λ _.
    let n = c.args.name.now in
    let old = c.args.slots.now.items in
    let new = c.take_slot-took.new.slots.items in
    let step = c.loop-step.step in
    let less = c.loop-step-test.true in
    let stay = stay_twice old c.loop-step.slots.items new c.loop-step.invariant.stay c.take_slot-took.ensures.stay in
    let first : c.slot_of-first.result ≡ slot_of old n = c.slot_of-first.ensures.slot ∙ ap (λ (l : List ℕ). slot_of l n) c.as_slice.ensures.value in
    let there : mark_behind new n step ≡ c.if-near.mark = behind-same old new n step stay.many ∙ ap (λ (slot : ℕ). mark_at new (slot + step)) (sym first) ∙ c.take_slot-took.ensures.it c.if-took.true in
    let mark : c.if-near.mark ≡ suc c.args.place = elim c.if-near.branch [
      | then-near w ↦ let is = w.mark-is in omega (arith, is)
      | else-near w ↦ let far = w.if-near in let near = c.if-near-2.true in omega (arith, far, near)
    ] in
    (step, omega (arith, less), there ∙ mark, taken-stay c.loop-step.slots.items new n step c.take_slot-took.ensures.stay c.loop-step.invariant.taken)

pub loop-step-preserved : goal.loop-step-preserved
loop-step-preserved c =
    let n = c.args.name.now in
    let old = c.args.slots.now.items in
    let new = c.take_slot-took.new.slots.items in
    let step = c.loop-step.step in
    let stay = stay_twice old c.loop-step.slots.items new c.loop-step.invariant.stay c.take_slot-took.ensures.stay in
    let first : c.slot_of-first.result ≡ slot_of old n = c.slot_of-first.ensures.slot ∙ ap (λ (l : List ℕ). slot_of l n) c.as_slice.ensures.value in
    record {
      stay = stay;
      taken = taken-next new n step (taken-stay c.loop-step.slots.items new n step c.take_slot-took.ensures.stay c.loop-step.invariant.taken)
          (λ free. c.take_slot-took.ensures.taken (ap (λ (slot : ℕ). mark_at new (slot + step)) first ∙ sym (behind-same old new n step stay.many) ∙ free));
    }
