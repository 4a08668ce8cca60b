use Rattle.std.proofs.Common.{◌≡◌, take}
use Rattle.swh_jobs.specs.Answers.{owned_jobs}
use Rattle.swh_jobs.specs.Spelled.{all_spelled}
use Rattle.swh_jobs.proofs.job.all_owned.Given as goal

abbrev pub invariant-loop-job : goal.invariant-loop-job
invariant-loop-job l = owned_jobs l.lines.items ≡ all_spelled (take l.job-index l.jobs)
