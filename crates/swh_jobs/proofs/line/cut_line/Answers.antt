use Rattle.swh_jobs.proofs.Cuts.{no_url}
use Rattle.swh_jobs.proofs.line.cut_line.Goals as goal

pub returns-in_default-split_at_byte-clause-none : goal.returns-in_default-split_at_byte-clause-none
returns-in_default-split_at_byte-clause-none c = no_url c.args.line.now c.in-Some.rest.now c.in-Some.kind c.in-Some.ensures.some c.in_default-split_at_byte.ensures.none
