-- What a load says of its input.
use Rattle.std.specs.Prelude.{◌≡◌, ℕ, Option, Some, None, List}
use Rattle.std.specs.List.{AllByRecursion}
use Rattle.swh_base.specs.declared.kind.Kind.{Kind}
use Rattle.swh_base.specs.declared.entry.Entry.{Entry}
use Rattle.swh_base.specs.declared.visit.VisitKind.{VisitKind}
use Rattle.swh_jobs.specs.Job.{Job}
use Rattle.swh_model.specs.Archive.{Bodies}
use Rattle.swh_inputs.specs.Input.{InputText, BreaksInput, MayBreakInput}
use Rattle.swh_loader.specs.Ending.{IsGivenBy, IsFull, Collided}
use Rattle.swh_loader.specs.declared.end.BadInput.TheVariants.{Broken, Collision, Read}
use Rattle.swh_loader.specs.declared.end.End.{End}
use Rattle.swh_loader.specs.declared.end.End.TheVariants.{Full, NotFound, Failed}
use Rattle.swh_program.specs.Found.{kind_at, found_at, HasFailed}
use Rattle.swh_exit.specs.Seen.{FileAt, FolderAt}

-- who loads the jobs of a run
abbrev pub loader : ℕ
loader = 1

-- the inputs of jobs: whether they tell what they hold, what stands at each path, and how often each path had failed
-- before and has failed now
pub record Inputs : Type 1 where
  pub tell : Type 0
  pub files : FileAt
  pub folders : FolderAt
  pub failures : List ℕ → ℕ
  pub failures_now : List ℕ → ℕ

-- the inputs with these parts
abbrev pub inputs : Type 0 → FileAt → FolderAt → (List ℕ → ℕ) → (List ℕ → ℕ) → Inputs
inputs tell files folders failures failures_now = record { tell = tell; files = files; folders = folders; failures = failures; failures_now = failures_now }

-- one input: its kind, whether it tells what it holds, what that is, if all of it is there, and whether a path of it has
-- failed
pub record Input : Type 1 where
  pub kind : VisitKind
  pub tells : Type 0
  pub found : Option InputText
  pub failed : Type 0

-- the input of a job
abbrev pub input_of : Inputs → Job → Input
input_of of_jobs job = record {
  kind = kind_at job.input;
  tells = of_jobs.tell;
  found = found_at of_jobs.files of_jobs.folders job.input;
  failed = HasFailed of_jobs.failures of_jobs.failures_now job.input;
}

-- What a load says of its input.
module _ (id_of : Kind → List ℕ → List ℕ) (input : Input) where
  -- Where the input tells what it holds, it is there, and `P` holds of its text.
  abbrev pub OfText : (InputText → Type 0) → Type 0
  OfText P = input.tells → (text : InputText) × (input.found ≡ Some text) × P text

  -- The input may give all of these entries before its reading stops.
  abbrev pub IsOfInput : List Entry → Type 0
  IsOfInput entries = OfText (λ text. AllByRecursion (IsGivenBy id_of text) entries)

  -- What this end of a visit says of its input, where these bodies are held.
  abbrev pub IsInputEnd : Bodies → End → Type 0
  IsInputEnd bodies (Full snapshot) = OfText (λ text. IsFull id_of text bodies snapshot)
  IsInputEnd bodies NotFound = input.tells → input.found ≡ None
  IsInputEnd bodies (Failed (Broken bad)) = MayBreakInput input.kind bad × OfText (λ text. BreaksInput id_of text bad)
  IsInputEnd bodies (Failed (Collision name)) = OfText (λ text. Collided id_of text bodies name)
  IsInputEnd bodies (Failed Read) = input.failed

-- The job's input may give all of these entries before its reading stops.
abbrev pub IsOfJob : (Kind → List ℕ → List ℕ) → Inputs → Job → List Entry → Type 0
IsOfJob id_of of_jobs job = IsOfInput id_of (input_of of_jobs job)
