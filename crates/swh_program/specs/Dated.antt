-- Jobs whose inputs were opened, each after a look at the clock.
use Rattle.std.specs.Prelude.{◌≡◌, ◌<◌, ◌≤◌, ℕ, ◌+◌, Option, Some, None, List, [], ◌∷◌}
use Rattle.std.specs.List.{AllByRecursion}
use Rattle.swh_outside.specs.Faults.{Rose}
use Rattle.swh_outside.specs.Opened.{IfFound, IsNotFound, IsFailed}
use Rattle.swh_outside.specs.declared.fault.Opened.{Opened}
use Rattle.swh_inputs.specs.Parts.{Parts, TellAll}
use Rattle.swh_inputs.specs.declared.input.Input.{Input as OpenedInput}
use Rattle.swh_inputs.specs.declared.input.Input.TheVariants.{Fast, Dir, Batch}
use Rattle.swh_jobs.specs.Job.{Job, JobInput}
use Rattle.swh_jobs.specs.Job.JobInput.{StreamAt, FolderAt as FolderIn, BatchAt}
use Rattle.swh_pool.specs.declared.dated.DatedJob.{DatedJob}
use Rattle.swh_program.specs.Inputs.{Inputs, inputs}
use Rattle.swh_exit.specs.Seen.{FileAt, FolderAt, Origins}

-- The clock said these dates, one after another.
abbrev pub AreSaid : (ℕ → ℕ) → List ℕ → Type 0
AreSaid time [] = Unit {0}
AreSaid time (date ∷ dates) = (date ≡ time 0) × AreSaid (λ k. time (k + 1)) dates

-- A part of an input was opened at a path: it holds what stands there, where that is told, it has its path, and it has not
-- failed; or nothing stands there; or the path has failed.
pub record IsOpenedAt {X Y : Type 0} (tell : Type 0) (holds : X → Y) (faults : X → ℕ) (place : X → List ℕ) (at : List ℕ → Option Y)
    (failures failures_now : List ℕ → ℕ) (path : List ℕ) (part : Opened X) : Type 0 where
  pub found : tell → IfFound part (λ x. at path ≡ Some (holds x))
  pub absent : tell → IsNotFound part → at path ≡ None
  pub at_path : IfFound part (λ x. place x ≡ path)
  pub quiet : IfFound part (λ x. faults x ≡ 0)
  pub failed : IsFailed part → Rose (failures path) (failures_now path)

-- A part of an input was given back: the count of its path rose where it had failed.
abbrev pub IsPartBack : {X : Type 0} → (X → ℕ) → (X → List ℕ) → (List ℕ → ℕ) → (List ℕ → ℕ) → Opened X → Type 0
IsPartBack faults place failures failures_now part =
    IfFound part (λ x. 0 < faults x → Rose (failures (place x)) (failures_now (place x)))

-- what stands at the paths of jobs, and how often each path has failed, and any
abbrev pub standing : FileAt → FolderAt → (List ℕ → ℕ) → ℕ → Origins
standing files folders failures faults = record { file_at = files; folder_at = folders; path_faults = failures; faults = faults }

-- What stands at the paths is the same, where that is told, and no count fell.
pub record IsKept (tell : Type 0) (old new : Origins) : Type 0 where
  pub files : tell → (path : List ℕ) → new.file_at path ≡ old.file_at path
  pub folders : tell → (path : List ℕ) → new.folder_at path ≡ old.folder_at path
  pub path_later : (path : List ℕ) → old.path_faults path ≤ new.path_faults path
  pub later : old.faults ≤ new.faults

-- the inputs that stand there, between two moments
abbrev pub between : Type 0 → Origins → Origins → Inputs
between tell old new = inputs tell old.file_at old.folder_at old.path_faults new.path_faults

-- by what the parts of inputs tell, and by what stands at each path
module _ {S F : Type 0} (p : Parts S F) (of_jobs : Inputs) where
  -- A source was opened at this path.
  abbrev pub IsSourceAt : List ℕ → Opened S → Type 0
  IsSourceAt path stream = IsOpenedAt of_jobs.tell p.sources.left p.sources.faults p.sources.path of_jobs.files of_jobs.failures of_jobs.failures_now path stream

  -- A folder was opened at this path.
  abbrev pub IsFolderAt : List ℕ → Opened F → Type 0
  IsFolderAt path folder = IsOpenedAt of_jobs.tell p.folders.holds p.folders.faults p.folders.path of_jobs.folders of_jobs.failures of_jobs.failures_now path folder

  -- A listing was opened at this path, if one is named.
  abbrev pub IsListingAt : Option (List ℕ) → Option (Opened S) → Type 0
  IsListingAt None None = Unit {0}
  IsListingAt (Some path) (Some listing) = IsSourceAt path listing
  IsListingAt _ _ = ⊥

  -- All parts of the input were opened, each at its path, and a head is the one that is named.
  abbrev pub IsInputAt : JobInput → OpenedInput S F → Type 0
  IsInputAt (StreamAt path head) (Fast stream other) = IsSourceAt path stream × (other ≡ head)
  IsInputAt (FolderIn path modes) (Dir folder listing) = IsFolderAt path folder × IsListingAt modes listing
  IsInputAt (BatchAt path refs) (Batch objects others) = IsSourceAt path objects × IsSourceAt refs others
  IsInputAt _ _ = ⊥

  -- The job's input was opened.
  pub record IsOpenedJob (job : Job) (opened : DatedJob S F) : Type 0 where
    pub origin : opened.job.origin ≡ job.url
    pub told : of_jobs.tell → TellAll p opened.job.input
    pub input : IsInputAt job.input opened.job.input

  -- The inputs of these jobs were opened, in their order.
  abbrev pub AreOpenedJobs : List Job → List (DatedJob S F) → Type 0
  AreOpenedJobs [] [] = Unit {0}
  AreOpenedJobs [] (o ∷ opened) = ⊥
  AreOpenedJobs (job ∷ jobs) [] = ⊥
  AreOpenedJobs (job ∷ jobs) (o ∷ opened) = IsOpenedJob job o × AreOpenedJobs jobs opened

-- by the counts of the paths before and now
module _ {S F : Type 0} (p : Parts S F) (failures failures_now : List ℕ → ℕ) where
  -- A source was given back.
  abbrev pub IsSourceBack : Opened S → Type 0
  IsSourceBack stream = IsPartBack p.sources.faults p.sources.path failures failures_now stream

  -- A folder was given back.
  abbrev pub IsFolderBack : Opened F → Type 0
  IsFolderBack folder = IsPartBack p.folders.faults p.folders.path failures failures_now folder

  -- A listing was given back, if there is one.
  abbrev pub IsListingBack : Option (Opened S) → Type 0
  IsListingBack None = Unit {0}
  IsListingBack (Some listing) = IsSourceBack listing

  -- All parts of an input were given back.
  abbrev pub IsGivenBack : OpenedInput S F → Type 0
  IsGivenBack (Fast stream head) = IsSourceBack stream
  IsGivenBack (Dir folder modes) = IsFolderBack folder × IsListingBack modes
  IsGivenBack (Batch objects refs) = IsSourceBack objects × IsSourceBack refs

  -- The inputs of these jobs were given back.
  abbrev pub AreGivenBack : List (DatedJob S F) → Type 0
  AreGivenBack jobs = AllByRecursion (λ j. IsGivenBack j.job.input) jobs
