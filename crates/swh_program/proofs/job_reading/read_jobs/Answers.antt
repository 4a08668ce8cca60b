use Rattle.swh_jobs.specs.Answers.{owned_jobs}
use Rattle.swh_program.proofs.JobReads.{jobs_read, refusal_read}
use Rattle.swh_program.proofs.job_reading.read_jobs.Goals as goal

pub returns-in-Ok-clause-there : goal.returns-in-Ok-clause-there
returns-in-Ok-clause-there g c told =
    let read = rw c.deref.ensures.value at c.jobs_of.ensures.jobs in
    jobs_read (g.O.Origins.file_at c.args.desk.now) c.args.path.now _ _ c.in-Ok.bytes.items (c.in-Found.ensures.found told) (c.in-Ok.ensures.front (c.in-Found.ensures.source_tells told)) (λ v. owned_jobs v.items) c.jobs_of.result read

pub returns-in-Ok-clause-refused : goal.returns-in-Ok-clause-refused
returns-in-Ok-clause-refused g c told =
    let read = rw c.deref.ensures.value at c.jobs_of.ensures.refused in
    refusal_read (g.O.Origins.file_at c.args.desk.now) c.args.path.now _ _ c.in-Ok.bytes.items (c.in-Found.ensures.found told) (c.in-Ok.ensures.front (c.in-Found.ensures.source_tells told)) c.jobs_of.result read
