use Rattle.std.proofs.Common.{arith, ◌≡◌, ◌<◌, ℕ, true, length, get_or, subst, sym}
use Rattle.swh_base.specs.Text.{is_ref_byte}
use Rattle.swh_fastgrammar.specs.Word.{IsRefRun}
use Rattle.swh_fastlines.proofs.RefRuns.{run_up_to, run_whole}
use Rattle.swh_fastlines.proofs.line_words.ref_run.Goals as goal

pub returns-then-not-is_ref_byte : goal.returns-then-not-is_ref_byte
returns-then-not-is_ref_byte c = run_up_to c.args.text.now c.bytes.count c.bytes-test.true c.bytes.invariant.all (sym c.if-not-is_ref_byte.ensures)

pub returns : goal.returns
returns c =
    let whole : length c.args.text.now ≡ c.bytes.count = omega (arith, c.bytes-test.false, c.bytes.invariant.within) in
    let all : (k : ℕ) → k < length c.args.text.now → is_ref_byte (get_or c.args.text.now k 0) ≡ true = λ k h. c.bytes.invariant.all k (omega (arith, h, whole)) in
    subst (IsRefRun c.args.text.now) whole (run_whole c.args.text.now all)
