use Rattle.swh_jobs.specs.Spelled.{fields_cut}
use Rattle.swh_jobs.proofs.Cuts.{no_url_no_job, no_input_no_job, path_in_line, more_in_line}
use Rattle.swh_jobs.proofs.line.spelled_line.Goals as goal

pub returns-in_default-url_text-clause-none : goal.returns-in_default-url_text-clause-none
returns-in_default-url_text-clause-none c = no_url_no_job c.args.line.now c.in-Some.cut.url.now (fields_cut c.in-Some.cut) c.in-Some.ensures.some c.in_default-url_text.ensures.none

pub input_at-requires-clause-path : goal.input_at-requires-clause-path
input_at-requires-clause-path c = λ h. c.requires (path_in_line c.args.line.now c.in-Some.cut.url.now (fields_cut c.in-Some.cut) 10 c.in-Some.ensures.some h)

pub input_at-requires-clause-more : goal.input_at-requires-clause-more
input_at-requires-clause-more c = more_in_line c.args.line.now c.in-Some.cut.url.now (fields_cut c.in-Some.cut) c.in-Some.ensures.some c.requires

pub returns-in_default-input_at-clause-none : goal.returns-in_default-input_at-clause-none
returns-in_default-input_at-clause-none c = no_input_no_job c.args.line.now c.in-Some.cut.url.now (fields_cut c.in-Some.cut) c.in-Some.ensures.some c.in_default-input_at.ensures.none
