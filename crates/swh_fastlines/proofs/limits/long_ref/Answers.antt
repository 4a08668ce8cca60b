use Rattle.swh_fastlines.proofs.WordLimits.{ref_passes, ref_passes_not}
use Rattle.swh_fastlines.proofs.limits.long_ref.Goals as goal

pub returns-in_default-clause-none : goal.returns-in_default-clause-none
returns-in_default-clause-none c = λ number p. c.in_default.ensures.none p.word p.text p.limit p.one p.spelled

pub returns-then-run-limit-clause-some : goal.returns-then-run-limit-clause-some
returns-then-run-limit-clause-some c =
    let s = c.in-Some.ensures.some in
    ref_passes c.args.line.now s.0 c.in-Some.text.now c.in-Some.limit c.ref_run-run.result s.1 s.2 c.ref_run-run.ensures c.if-run-limit.true

pub returns-else-run-limit-clause-none : goal.returns-else-run-limit-clause-none
returns-else-run-limit-clause-none c =
    let s = c.in-Some.ensures.some in
    ref_passes_not c.args.line.now s.0 c.in-Some.text.now c.in-Some.limit c.ref_run-run.result s.1 s.2 c.ref_run-run.ensures c.if-run-limit.false
