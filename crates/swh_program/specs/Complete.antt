-- When jobs have to be full, and their lines; what their inputs give and mean, and the room that they need.
use Rattle.std.specs.Prelude.{◌≡◌, ◌⊎◌, ℕ, ◌+◌, ◌≤◌, Some, List, length, Contains, map, flat_map, codes}
use Rattle.std.specs.List.{AllByRecursion}
use Rattle.swh_base.specs.declared.kind.Kind.{Kind}
use Rattle.swh_base.specs.declared.name.Name.{Name}
use Rattle.swh_base.specs.declared.entry.Entry.{Entry}
use Rattle.swh_swhid.specs.Core.{core_text}
use Rattle.swh_jobs.specs.Job.{Job}
use Rattle.swh_model.specs.declared.event.Event.{Event}
use Rattle.swh_model.specs.Answer.{line_of}
use Rattle.swh_model.specs.Archive.{Bodies, body_of}
use Rattle.swh_model.specs.Limits.{store_length, ledger_length}
use Rattle.swh_base.specs.Limits.{file_limit}
use Rattle.swh_model.specs.Meaning.{Made, StreamMeaning}
use Rattle.swh_base.specs.Snapshot.{snapshot_name}
use Rattle.swh_inputs.specs.Input.{InputText, MeansInput}
use Rattle.swh_inputs.specs.Streaming.{MayGiveInput}
use Rattle.swh_ingest.specs.Visiting.{next_visit}
use Rattle.swh_loader.specs.Room.{ledger_growth, store_growth}
use Rattle.swh_program.specs.Found.{found_at, paths_of}
use Rattle.swh_exit.specs.Seen.{FileAt, FolderAt}
use Rattle.swh_exit.specs.Run.{IsQuiet}

-- a job and what its input makes
pub record MeantJob : Type 0 where
  pub job : Job
  pub making : StreamMeaning

-- the jobs, without what their inputs make
abbrev pub jobs_of_meant : List MeantJob → List Job
jobs_of_meant meant = map (λ m. m.job) meant

-- the line of a full job: its origin's next visit, and the snapshot that its input makes
abbrev pub full_line : List Event → MeantJob → List ℕ
full_line before m = line_of m.job.url (next_visit before m.job.url) (codes "full") (core_text (snapshot_name m.making.snapshot))

-- the lines of full jobs, in their order
abbrev pub full_lines : List Event → List MeantJob → List ℕ
full_lines before meant = flat_map (full_line before) meant

-- all that the inputs make
abbrev pub all_made : List MeantJob → List Made
all_made meant = flat_map (λ m. m.making.objects) meant

module _ (id_of : Kind → List ℕ → List ℕ) where
  -- The job's input is there, and means what stands beside the job.
  pub record IsMeant (files : FileAt) (folders : FolderAt) (m : MeantJob) : Type 0 where
    pub text : InputText
    pub there : found_at files folders m.job.input ≡ Some text
    pub means : MeansInput id_of text m.making

  -- The inputs of these jobs are there, and each means what stands beside its job.
  abbrev pub AreMeant : FileAt → FolderAt → List MeantJob → Type 0
  AreMeant files folders meant = AllByRecursion (IsMeant files folders) meant

  -- This body is made, under this name.
  abbrev pub MakesBody : List Made → Name → List ℕ → Type 0
  MakesBody objects name body = Contains objects (record { kind = name.kind; body = body }) × (name.id ≡ id_of name.kind body)

  -- The body is held under this name, or it is made.
  abbrev pub HasBodyOrMakes : Bodies → List Made → Name → List ℕ → Type 0
  HasBodyOrMakes bodies objects name body = (body_of bodies name ≡ Some body) ⊎ MakesBody objects name body

  -- Each of these is among the objects that are made, under its name.
  abbrev pub AreMade : List Made → List Entry → Type 0
  AreMade objects entries = AllByRecursion (λ e. MakesBody objects e.name e.body) entries

  -- All that the inputs of these jobs may give before their reading stops is among these objects; and so is all that they mean.
  pub record HasAllGiven (files : FileAt) (folders : FolderAt) (jobs : List Job) (objects : List Made) : Type 0 where
    pub has : (job : Job) (text : InputText) (given : List Made) → Contains jobs job → found_at files folders job.input ≡ Some text → MayGiveInput id_of text given
        → (o : Made) → Contains given o → Contains objects o

  -- No name has two bodies among those that are held and those that are made.
  pub record HasOneBody (bodies : Bodies) (objects : List Made) : Type 0 where
    pub one : (name : Name) (a b : List ℕ) → HasBodyOrMakes bodies objects name a → HasBodyOrMakes bodies objects name b → a ≡ b

  -- After the history at entry both files have room for the most that loads of these jobs add, whose inputs give these
  -- objects.
  pub record HasRoomForLoads (before : List Event) (jobs : List Job) (objects : List Made) : Type 0 where
    pub ledger : ledger_length before + ledger_growth (length jobs) objects ≤ file_limit
    pub store : store_length before + store_growth id_of objects ≤ file_limit

-- None of the jobs' paths has failed.
abbrev pub AreQuiet : (List ℕ → ℕ) → (List ℕ → ℕ) → List MeantJob → Type 0
AreQuiet failures failures_now meant = AllByRecursion (λ m. AllByRecursion (λ path. IsQuiet (failures path) (failures_now path)) (paths_of m.job.input)) meant
