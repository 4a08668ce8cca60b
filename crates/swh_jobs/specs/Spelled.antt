-- Jobs without where they lie: in a job file, or in memory of their own.
use Rattle.std.specs.Prelude.{ℕ, List, Option, Some, None, map}
use Rattle.std.specs.Borrow.{Bor}
use Rattle.std.specs.Option.{option_copied}
use Rattle.swh_jobs.specs.Job.{Job, JobInput, Fields}
use Rattle.swh_jobs.specs.Job.JobInput.{StreamAt, FolderAt, BatchAt}
use Rattle.swh_jobs.specs.declared.line.Cut.{Cut}
use Rattle.swh_jobs.specs.declared.job.SpelledInput.{SpelledInput}
use Rattle.swh_jobs.specs.declared.job.SpelledInput.TheVariants.{Fast, Dir, Batch}
use Rattle.swh_jobs.specs.declared.job.SpelledJob.{SpelledJob}

-- the fields of a line, as the grammar's
abbrev pub fields_cut : Cut → Fields
fields_cut cut = record { kind = cut.kind; path = cut.path.now; more = option_copied cut.more }

-- an input that stands in a job file, as the grammar's
abbrev pub spelled_input : SpelledInput → JobInput
spelled_input (Fast path head) = StreamAt path.now (option_copied head)
spelled_input (Dir path modes) = FolderAt path.now (option_copied modes)
spelled_input (Batch path refs) = BatchAt path.now refs.now

-- a job that stands in a job file, as the grammar's
abbrev pub spelled_job : SpelledJob → Job
spelled_job job = record { url = job.url.now; input = spelled_input job.input }

-- jobs that stand in a job file, as the grammar's
abbrev pub all_spelled : List SpelledJob → List Job
all_spelled jobs = map spelled_job jobs
