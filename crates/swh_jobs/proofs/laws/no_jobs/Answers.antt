use Rattle.swh_jobs.proofs.Exact.{no_jobs_lem}
use Rattle.swh_jobs.proofs.laws.no_jobs.Goals as goal

pub returns : goal.returns
returns c = no_jobs_lem
