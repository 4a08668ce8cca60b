use Rattle.std.proofs.Common.{◌≡◌, ◌≤◌, ◌^◌, ℕ, arith}
use Rattle.std.proofs.lemmas.Result.{MatchResult-from_err}
use Rattle.swh_model.specs.Limits.{store_length}
use Rattle.swh_model.proofs.PlainLengths.{store-next, store-within}
use Rattle.swh_model.proofs.lengths.length_of_store.Goals as goal

pub loop-event-preserved : goal.loop-event-preserved
loop-event-preserved c =
    let next = store-next c.args.history.now c.loop-event.event-index c.event-item.result c.loop-event-test.true c.event-item.is in
    let sum = c.in_ok-sum.ensures in let so_far = c.loop-event.invariant in let here = c.in_ok-length_in_store.ensures in
    omega (arith, next, sum, so_far, here)

pub returns-in_err-length_in_store : goal.returns-in_err-length_in_store
returns-in_err-length_in_store c =
    let within = store-within c.args.history.now c.loop-event.event-index c.event-item.result c.loop-event-test.true c.event-item.is in
    let here = c.in_err-length_in_store.ensures in
    let beyond : 2 ^ 64 ≤ store_length c.args.history.now = omega (arith, within, here) in
    MatchResult-from_err c.from_residual.result (λ (l : ℕ). l ≡ store_length c.args.history.now) (λ _. 2 ^ 64 ≤ store_length c.args.history.now) c.from_residual.ensures.0 (λ _. beyond)

pub returns-in_err-sum : goal.returns-in_err-sum
returns-in_err-sum c =
    let within = store-within c.args.history.now c.loop-event.event-index c.event-item.result c.loop-event-test.true c.event-item.is in
    let sum = c.in_err-sum.ensures in let so_far = c.loop-event.invariant in let here = c.in_ok-length_in_store.ensures in
    let beyond : 2 ^ 64 ≤ store_length c.args.history.now = omega (arith, within, sum, so_far, here) in
    MatchResult-from_err c.from_residual-in_err-sum.result (λ (l : ℕ). l ≡ store_length c.args.history.now) (λ _. 2 ^ 64 ≤ store_length c.args.history.now) c.from_residual-in_err-sum.ensures.0 (λ _. beyond)
