-- What the reader answers.
use Rattle.std.specs.Prelude.{ℕ, List, Option, option_map, map, string_bytes}
use Rattle.swh_jobs.specs.Job.{Job, JobInput}
use Rattle.swh_jobs.specs.Job.JobInput.{StreamAt, FolderAt, BatchAt}
use Rattle.swh_jobs.specs.JobFile.{IsJobFile, IsJobFileFault}
use Rattle.swh_jobs.specs.declared.fault.JobsFault.{JobsFault}
use Rattle.swh_jobs.specs.declared.fault.JobsFault.TheVariants.{Bad, Memory}
use Rattle.swh_jobs.specs.declared.job.JobInput.{JobInput as OwnedInput}
use Rattle.swh_jobs.specs.declared.job.JobInput.TheVariants.{Fast, Dir, Batch}
use Rattle.swh_jobs.specs.declared.job.JobLine.{JobLine}

-- an input in memory of its own, as the grammar's
abbrev pub input_of : OwnedInput → JobInput
input_of (Fast path head) = StreamAt (string_bytes path) head
input_of (Dir path modes) = FolderAt (string_bytes path) (option_map string_bytes modes)
input_of (Batch path refs) = BatchAt (string_bytes path) (string_bytes refs)

-- a job of its own, as the grammar's
abbrev pub job_of : JobLine → Job
job_of line = record { url = line.url; input = input_of line.input }

-- jobs of their own, as the grammar's
abbrev pub owned_jobs : List JobLine → List Job
owned_jobs lines = map job_of lines

-- The bytes spell no jobs, or memory ran out.
abbrev pub SpellsNone : List ℕ → JobsFault → Type 0
SpellsNone bytes (Bad line why) = (jobs : List Job) → IsJobFile bytes jobs → ⊥
SpellsNone bytes Memory = Unit {0}

-- The fault is the first of the bytes. Of want of memory nothing is said.
abbrev pub ExplainsJobs : List ℕ → JobsFault → Type 0
ExplainsJobs bytes (Bad line why) = IsJobFileFault bytes line why
ExplainsJobs bytes Memory = Unit {0}
