-- Job files: the jobs that bytes spell, and the first line that breaks.
use Rattle.std.specs.Prelude.{◌≡◌, ◌≢◌, ◌⊎◌, ℕ, ◌+◌, ◌<◌, ◌≤◌, List, [], ◌∷◌, ◌++◌, length, map, Contains}
use Rattle.std.specs.List.{AllByRecursion}
use Rattle.swh_jobs.specs.Job.{Job, IsJob, line_text}
use Rattle.swh_jobs.specs.declared.limits.TheConstants.{JOBS_LIMIT}
use Rattle.swh_jobs.specs.declared.fault.JobWhy.{JobWhy}
use Rattle.swh_jobs.specs.declared.fault.JobWhy.TheVariants.{Form, Origin, Limit}

-- no job file has more lines: 256
abbrev pub most_jobs : ℕ
most_jobs = JOBS_LIMIT

-- the URLs of the jobs, in their order
abbrev pub origins : List Job → List (List ℕ)
origins jobs = map (λ job. job.url) jobs

-- None stands twice.
abbrev pub AreDistinct : List (List ℕ) → Type 0
AreDistinct [] = Unit {0}
AreDistinct (url ∷ urls) = (Contains urls url → ⊥) × AreDistinct urls

-- Each is a job, no origin stands twice, and there are 256 at most.
pub record AreJobs (jobs : List Job) : Type 0 where
  pub each : AllByRecursion IsJob jobs
  pub distinct : AreDistinct (origins jobs)
  pub few : length jobs ≤ most_jobs

-- each line with its LF
abbrev pub lines_text : List Job → List ℕ
lines_text [] = []
lines_text (job ∷ jobs) = line_text job ++ 10 ∷ lines_text jobs

-- The bytes are the lines of these jobs. The LF of the last line may lack.
pub record IsJobFile (bytes : List ℕ) (jobs : List Job) : Type 0 where
  pub text : (bytes ≡ lines_text jobs) ⊎ (bytes ++ 10 ∷ [] ≡ lines_text jobs)
  pub good : AreJobs jobs

-- an LF and more, or nothing
abbrev pub EndsLine : List ℕ → Type 0
EndsLine text = (text ≡ []) ⊎ ((rest : List ℕ) × (text ≡ 10 ∷ rest))

-- The line that the bytes begin with spells this job.
pub record BeginsJob (bytes : List ℕ) (job : Job) : Type 0 where
  pub is_job : IsJob job
  pub behind : List ℕ
  pub text : bytes ≡ line_text job ++ behind
  pub ends : EndsLine behind

-- The bytes begin with the line of a job whose origin an earlier job has.
pub record RepeatsOrigin (before : List Job) (bytes : List ℕ) : Type 0 where
  pub job : Job
  pub begins : BeginsJob bytes job
  pub again : Contains (origins before) job.url

-- Behind the lines of these jobs comes a line that breaks in the way that the variant names.
abbrev pub LineBreaks : List Job → List ℕ → JobWhy → Type 0
LineBreaks before rest Form = (length before < most_jobs) × ((job : Job) → BeginsJob rest job → ⊥)
LineBreaks before rest Origin = (length before < most_jobs) × RepeatsOrigin before rest
LineBreaks before rest Limit = length before ≡ most_jobs

-- The first line that breaks has the number `line`, and breaks as `why` says.
pub record IsJobFileFault (bytes : List ℕ) (line : ℕ) (why : JobWhy) : Type 0 where
  pub before : List Job
  pub rest : List ℕ
  pub good : AreJobs before
  pub text : bytes ≡ lines_text before ++ rest
  pub more : rest ≢ []
  pub here : line ≡ length before + 1
  pub breaks : LineBreaks before rest why
