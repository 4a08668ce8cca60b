-- How far a job file is read.
use Rattle.std.specs.Prelude.{◌≡◌, ◌⊎◌, ◌↔◌, ℕ, ◌+◌, ◌<◌, true, List, [], ◌∷◌, ◌++◌, length, Contains}
use Rattle.std.specs.BTreeMap.{is_at}
use Rattle.std.specs.Borrow.{Bor}
use Rattle.std.specs.Cmp.Lexicographic.{slice_cmp}
use Rattle.std.specs.List.{list_any}
use Rattle.std.specs.Ordering.{nat_cmp}
use Rattle.swh_jobs.specs.Job.{Job, JobInput, Fields, IsJob, IsJobInput, fields_of, fields_text}
use Rattle.swh_jobs.specs.JobFile.{LineBreaks, lines_text, most_jobs, origins}
use Rattle.swh_jobs.specs.declared.fault.JobsFault.{JobsFault}
use Rattle.swh_jobs.specs.declared.fault.JobsFault.TheVariants.{Bad, Memory}

-- These are the URL and the fields of the line, between its TABs, whether or not they are those of a job.
pub record HasFields (line url : List ℕ) (f : Fields) : Type 0 where
  pub text : line ≡ fields_text url f
  pub url_no_tab : Contains url 9 → ⊥
  pub path_no_tab : Contains f.path 9 → ⊥

-- The fields are those of this input, which is a job's.
pub record IsInputOf (f : Fields) (input : JobInput) : Type 0 where
  pub is_input : IsJobInput input
  pub are : fields_of input ≡ f

-- The bytes begin with this line, which is given without its LF, and go on with `rest`.
pub record IsFirstLine (bytes line rest : List ℕ) : Type 0 where
  pub one_line : Contains line 10 → ⊥
  pub text : (bytes ≡ line ++ 10 ∷ rest) ⊎ ((bytes ≡ line) × (rest ≡ []))

-- What is left of the bytes after the lines of these jobs.
abbrev pub IsLeft : List ℕ → List Job → List ℕ → Type 0
IsLeft bytes jobs rest = (bytes ≡ lines_text jobs ++ rest) ⊎ ((rest ≡ []) × (bytes ++ 10 ∷ [] ≡ lines_text jobs))

-- The keys are the origins of these jobs.
abbrev pub AreOrigins : List (Bor (List ℕ)) → List Job → Type 0
AreOrigins keys jobs = (url : List ℕ) → (list_any (is_at (λ (key : Bor (List ℕ)). slice_cmp nat_cmp url key.now)) keys ≡ true) ↔ Contains (origins jobs) url

-- what one more job has to be
pub record MayFollowJobs (before : List Job) (job : Job) : Type 0 where
  pub room : length before < most_jobs
  pub is_job : IsJob job
  pub fresh : Contains (origins before) job.url → ⊥

-- The fault is that of the line with which these bytes begin. Of want of memory nothing is said.
abbrev pub ExplainsNext : List Job → List ℕ → JobsFault → Type 0
ExplainsNext before rest (Bad line why) = (line ≡ length before + 1) × LineBreaks before rest why
ExplainsNext before rest Memory = Unit {0}
