-- A job, and the line of a job file that spells it.
use Rattle.std.specs.Prelude.{◌≡◌, ◌≢◌, ℕ, ◌≤◌, Option, Some, None, List, [], ◌∷◌, ◌++◌, length, Contains, IfSome, IsUtf8, codes}
use Rattle.swh_base.specs.Url.{IsUrl}
use Rattle.swh_base.specs.Text.{IsRef}
use Rattle.swh_base.specs.Visit.{visit_kind_word}
use Rattle.swh_base.specs.declared.visit.VisitKind.{VisitKind}
use Rattle.swh_base.specs.declared.visit.VisitKind.TheVariants.{Fast, Dir, Batch}
use Rattle.swh_jobs.specs.declared.limits.TheConstants.{INPUT_PATH_LIMIT}

-- Where an input stands: the path of a stream, and the head where one is named; the path of a folder, and that of its listing
-- where it has one; or the path of a batch, and that of its refs.
pub data JobInput : Type 0 where
  StreamAt : List ℕ → Option (List ℕ) → JobInput
  FolderAt : List ℕ → Option (List ℕ) → JobInput
  BatchAt : List ℕ → List ℕ → JobInput

-- an origin, and where the input stands that is loaded for it
pub record Job : Type 0 where
  pub url : List ℕ
  pub input : JobInput

-- No byte is an LF.
abbrev pub HasNoFeed : List ℕ → Type 0
HasNoFeed text = Contains text 10 → ⊥

-- 1 to 4,096 bytes of text without TAB and LF
pub record IsJobPath (path : List ℕ) : Type 0 where
  pub some : 1 ≤ length path
  pub short : length path ≤ INPUT_PATH_LIMIT
  pub no_tab : Contains path 9 → ⊥
  pub no_feed : HasNoFeed path
  pub utf8 : IsUtf8 path

-- a ref other than `HEAD`, as text
pub record IsHeadText (head : List ℕ) : Type 0 where
  pub is_ref : IsRef head
  pub other : head ≢ codes "HEAD"
  pub utf8 : IsUtf8 head

-- The paths are a job's, and so is the head where one is named.
abbrev pub IsJobInput : JobInput → Type 0
IsJobInput (StreamAt path head) = IsJobPath path × IfSome head IsHeadText
IsJobInput (FolderAt path modes) = IsJobPath path × IfSome modes IsJobPath
IsJobInput (BatchAt path refs) = IsJobPath path × IsJobPath refs

-- The URL is an origin's and is text, and the input is a job's.
pub record IsJob (job : Job) : Type 0 where
  pub is_url : IsUrl job.url
  pub utf8 : IsUtf8 job.url
  pub is_input : IsJobInput job.input

-- what a line says of an input: its kind, its path, and what stands behind that
pub record Fields : Type 0 where
  pub kind : VisitKind
  pub path : List ℕ
  pub more : Option (List ℕ)

-- these fields
abbrev pub fields : VisitKind → List ℕ → Option (List ℕ) → Fields
fields kind path more = record { kind = kind; path = path; more = more }

-- the fields of an input
abbrev pub fields_of : JobInput → Fields
fields_of (StreamAt path head) = fields Fast path head
fields_of (FolderAt path modes) = fields Dir path modes
fields_of (BatchAt path refs) = fields Batch path (Some refs)

-- a TAB and what stands behind it, or nothing
abbrev pub more_text : Option (List ℕ) → List ℕ
more_text None = []
more_text (Some more) = 9 ∷ more

-- the word of the kind, the URL, the path, and what stands behind it, with TABs between
abbrev pub fields_text : List ℕ → Fields → List ℕ
fields_text url f = visit_kind_word f.kind ++ 9 ∷ (url ++ 9 ∷ (f.path ++ more_text f.more))

-- `fast`, `dir` or `batch`, the URL, and the path; and then the head of a stream or the path of a listing, where there is one,
-- or the path of refs; with TABs between
abbrev pub line_text : Job → List ℕ
line_text job = fields_text job.url (fields_of job.input)

-- The line spells this job.
pub record IsLineOf (line : List ℕ) (job : Job) : Type 0 where
  pub is_job : IsJob job
  pub text : line ≡ line_text job
