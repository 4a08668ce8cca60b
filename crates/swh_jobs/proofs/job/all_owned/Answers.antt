use Rattle.std.proofs.Common.{ℕ, zero, suc, ◌<◌, List, [], ◌∷◌, length, get_or, arith}
use Rattle.std.specs.List.{AllByRecursion}
use Rattle.swh_jobs.specs.Job.{IsJob}
use Rattle.swh_jobs.specs.Spelled.{spelled_job, all_spelled}
use Rattle.swh_jobs.specs.declared.job.SpelledJob.{SpelledJob}
use Rattle.swh_jobs.proofs.job.all_owned.Goals as goal

is_job_at : (jobs : List SpelledJob) (i : ℕ) (d : SpelledJob) → AllByRecursion IsJob (all_spelled jobs) → i < length jobs → IsJob (spelled_job (get_or jobs i d))
is_job_at [] i d h l = absurd (omega arith)
is_job_at (job ∷ jobs) zero d h l = h.0
is_job_at (job ∷ jobs) (suc i) d h l = is_job_at jobs i d h.1 (omega arith)

pub owned-requires : goal.owned-requires
owned-requires c = is_job_at c.args.jobs.now c.loop-job.job-index _ c.requires c.loop-job-test.true
