-- The jobs that a run is asked to load.
use Rattle.std.specs.Prelude.{◌≡◌, ◌⊎◌, ◌++◌, ℕ, Some, None, List, codes, decimal}
use Rattle.swh_jobs.specs.Job.{Job}
use Rattle.swh_jobs.specs.JobFile.{IsJobFile, IsJobFileFault}
use Rattle.swh_jobs.specs.declared.fault.JobWhy.{JobWhy}
use Rattle.swh_jobs.specs.declared.fault.JobWhy.TheVariants.{Form, Origin, Limit}
use Rattle.swh_exit.specs.Refusal.{refusal}
use Rattle.swh_exit.specs.Seen.{FileAt}
use Rattle.swh_exit.specs.declared.answer.Answer.{Answer}
use Rattle.swh_exit.specs.declared.answer.Answer.TheVariants.{NoJobFile, BadJob, OutsideSource, Memory}

-- The file at the path is a job file of these jobs.
pub record AreJobsAt (file_at : FileAt) (path : List ℕ) (jobs : List Job) : Type 0 where
  pub bytes : List ℕ
  pub there : file_at path ≡ Some bytes
  pub are : IsJobFile bytes jobs

-- The first line that breaks of the file at the path has the number `line`, and breaks as `why` says.
pub record IsBadAt (file_at : FileAt) (path : List ℕ) (line : ℕ) (why : JobWhy) : Type 0 where
  pub bytes : List ℕ
  pub there : file_at path ≡ Some bytes
  pub fault : IsJobFileFault bytes line why

-- The file at the path is a job file.
abbrev pub HasJobs : FileAt → List ℕ → Type 0
HasJobs file_at path = (jobs : List Job) × AreJobsAt file_at path jobs

-- There is no file at the path, or it has a line that breaks.
abbrev pub HasNoJobs : FileAt → List ℕ → Type 0
HasNoJobs file_at path = (file_at path ≡ None) ⊎ ((line : ℕ) × (why : JobWhy) × IsBadAt file_at path line why)

-- the word for why a line breaks
abbrev pub job_why_word : JobWhy → List ℕ
job_why_word Form = codes "form"
job_why_word Origin = codes "origin"
job_why_word Limit = codes "limit"

-- what is printed of the first line that breaks
abbrev pub bad_job_line : ℕ → JobWhy → List ℕ
bad_job_line line why = refusal (codes "job line " ++ (decimal line ++ (codes ": " ++ job_why_word why)))

-- The text tells the first line of these bytes that breaks.
pub record TellsFault (bytes text : List ℕ) : Type 0 where
  pub line : ℕ
  pub why : JobWhy
  pub fault : IsJobFileFault bytes line why
  pub text_is : text ≡ bad_job_line line why

-- The text tells the first line of the file at the path that breaks.
pub record TellsBadJob (file_at : FileAt) (path text : List ℕ) : Type 0 where
  pub line : ℕ
  pub why : JobWhy
  pub bad : IsBadAt file_at path line why
  pub text_is : text ≡ bad_job_line line why

-- The bytes of a job file may be refused by this answer.
abbrev pub IsReadRefusal : List ℕ → Answer → Type 0
IsReadRefusal bytes (BadJob text) = TellsFault bytes text
IsReadRefusal bytes Memory = Unit {0}
IsReadRefusal bytes _ = ⊥

-- A job file may be refused by this answer.
abbrev pub IsJobRefusal : Answer → Type 0
IsJobRefusal NoJobFile = Unit {0}
IsJobRefusal (BadJob text) = (bytes : List ℕ) × TellsFault bytes text
IsJobRefusal OutsideSource = Unit {0}
IsJobRefusal Memory = Unit {0}
IsJobRefusal _ = ⊥

-- why a job file is refused
abbrev pub IsJobRefused : FileAt → List ℕ → Answer → Type 0
IsJobRefused file_at path NoJobFile = file_at path ≡ None
IsJobRefused file_at path (BadJob text) = TellsBadJob file_at path text
IsJobRefused file_at path OutsideSource = Unit {0}
IsJobRefused file_at path Memory = Unit {0}
IsJobRefused file_at path _ = ⊥
