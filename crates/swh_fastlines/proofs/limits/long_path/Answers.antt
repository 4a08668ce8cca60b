use Rattle.std.proofs.Common.{arith}
use Rattle.swh_fastlines.proofs.WordLimits.{paths_size}
use Rattle.swh_fastlines.proofs.limits.long_path.Goals as goal

pub returns-then-line-le-PATH_LIMIT-clause-none : goal.returns-then-line-le-PATH_LIMIT-clause-none
returns-then-line-le-PATH_LIMIT-clause-none c = λ number p.
    let long = paths_size c.args.line.now number p in
    let short = c.if-line-le-PATH_LIMIT.true in
    omega (arith, long, short)
