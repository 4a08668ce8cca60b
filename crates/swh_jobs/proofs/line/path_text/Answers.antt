use Rattle.swh_jobs.proofs.Cuts.{tab_inside}
use Rattle.swh_jobs.proofs.line.path_text.Goals as goal

pub returns-in-Some-clause-none : goal.returns-in-Some-clause-none
returns-in-Some-clause-none c = tab_inside c.args.path.now c.in-Some.field-0.0.now c.in-Some.field-0.1.now c.in-Some.ensures.some.1
