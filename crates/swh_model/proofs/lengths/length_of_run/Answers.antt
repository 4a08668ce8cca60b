use Rattle.std.proofs.Common.{◌≡◌, ◌≤◌, ◌^◌, ℕ, length, ap, arith}
use Rattle.std.proofs.lemmas.Result.{MatchResult-from_err}
use Rattle.swh_model.specs.Limits.{run_length}
use Rattle.swh_model.proofs.PlainLengths.{run-next, run-within}
use Rattle.swh_model.proofs.lengths.length_of_run.Goals as goal

pub loop-entry-preserved : goal.loop-entry-preserved
loop-entry-preserved c =
    let next = run-next c.args.entries.now c.loop-entry.entry-index c.entry-item.result c.loop-entry-test.true c.entry-item.is in
    let sum = c.in_ok-sum.ensures in let so_far = c.loop-entry.invariant in
    let id = c.length_of_id-id.ensures.value in let body = ap length c.as_slice.ensures in
    omega (arith, next, sum, so_far, id, body)

pub returns-in_err-sum : goal.returns-in_err-sum
returns-in_err-sum c =
    let within = run-within c.args.entries.now c.loop-entry.entry-index c.entry-item.result c.loop-entry-test.true c.entry-item.is in
    let sum = c.in_err-sum.ensures in let so_far = c.loop-entry.invariant in
    let id = c.length_of_id-id.ensures.value in let body = ap length c.as_slice.ensures in
    let beyond : 2 ^ 64 ≤ run_length c.args.entries.now = omega (arith, within, sum, so_far, id, body) in
    MatchResult-from_err c.from_residual.result (λ (l : ℕ). l ≡ run_length c.args.entries.now) (λ _. 2 ^ 64 ≤ run_length c.args.entries.now) c.from_residual.ensures.0 (λ _. beyond)
