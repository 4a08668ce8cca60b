use Rattle.swh_fastlines.proofs.WordLimits.{no_words}
use Rattle.swh_fastlines.proofs.limits.word_limit.Goals as goal

pub returns-in-None-clause-none : goal.returns-in-None-clause-none
returns-in-None-clause-none c = no_words c.args.line.now c.in_default.ensures.none c.in_default-long_ref.ensures.none (rw c.in-None.is at c.in_ok-length.ensures.none)
