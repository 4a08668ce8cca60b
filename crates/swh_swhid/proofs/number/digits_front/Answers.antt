use Rattle.std.proofs.Common.{◌<◌, ◌+◌, ◌-◌, ◌*◌, ◌^◌, ℕ, List, take, get_or, subst, sym, arith}
use Rattle.std.proofs.lemmas.List.{length-take-le, take_more}
use Rattle.swh_swhid.specs.Number.{BeginsNumber, MayTakeDigit}
use Rattle.swh_swhid.proofs.Numerals.{goes_on-small, goes_on-more, goes_on-none, ten-small}
use Rattle.swh_swhid.proofs.number.digits_front.Goals as goal

pub may_follow-requires : goal.may_follow-requires
may_follow-requires c = subst (λ (k : ℕ). c.loop-i.value < 10 ^ k) (length-take-le c.loop-i.i c.args.text.now (omega arith)) (goes_on-small _ _ _ c.loop-i.invariant)

pub loop-i-init : goal.loop-i-init
loop-i-init c = goes_on-none c.args.least c.requires

pub overflow_mul-value : goal.overflow_mul-value
overflow_mul-value c =
    let may = c.may_follow.ensures.0 c.if-not-may_follow.false in
    let small = subst (λ (k : ℕ). c.loop-i.value < 10 ^ k) (length-take-le c.loop-i.i c.args.text.now (omega arith)) (goes_on-small _ _ _ c.loop-i.invariant) in
    let few = ten-small c.loop-i.i (omega (arith, may.room)) in
    omega (arith, small, few)

pub overflow_add-value : goal.overflow_add-value
overflow_add-value c =
    let may = c.may_follow.ensures.0 c.if-not-may_follow.false in
    let digit = may.digit in
    let small = subst (λ (k : ℕ). c.loop-i.value < 10 ^ k) (length-take-le c.loop-i.i c.args.text.now (omega arith)) (goes_on-small _ _ _ c.loop-i.invariant) in
    let few = ten-small c.loop-i.i (omega (arith, may.room)) in
    omega (arith, small, few, digit, c.from.ensures)

pub loop-i-preserved : goal.loop-i-preserved
loop-i-preserved c =
    let len = length-take-le c.loop-i.i c.args.text.now (omega arith) in
    let may = subst (λ (k : ℕ). MayTakeDigit c.args.least c.loop-i.value k (get_or c.args.text.now c.loop-i.i 0)) (sym len) (c.may_follow.ensures.0 c.if-not-may_follow.false) in
    let more = goes_on-more c.args.least c.loop-i.value (take c.loop-i.i c.args.text.now) (get_or c.args.text.now c.loop-i.i 0) c.loop-i.invariant may in
    rw c.from.ensures (subst (λ (t : List ℕ). BeginsNumber c.args.least t (c.loop-i.value * 10 + (get_or c.args.text.now c.loop-i.i 0 - 48))) (sym (take_more c.args.text.now c.loop-i.i 0 (omega arith))) more)
