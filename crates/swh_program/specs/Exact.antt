-- The line that reports a job, by the archive before its load and by its input.
use Rattle.std.specs.Prelude.{◌≡◌, ◌≢◌, ◌⊎◌, ℕ, ◌+◌, Option, Some, None, Ok, List, [], ◌∷◌, ◌++◌, length}
use Rattle.std.specs.List.{AllZip}
use Rattle.swh_base.specs.declared.kind.Kind.{Kind}
use Rattle.swh_base.specs.declared.name.Name.{Name}
use Rattle.swh_jobs.specs.Job.{Job}
use Rattle.swh_model.specs.Archive.{Archive, Bodies, visits_of}
use Rattle.swh_model.specs.Meaning.{StreamMeaning}
use Rattle.swh_inputs.specs.Input.{InputText, MeansInput, BreaksInput}
use Rattle.swh_loader.specs.Report.{report_of}
use Rattle.swh_loader.specs.declared.end.BadInput.TheVariants.{Broken, Collision, Read}
use Rattle.swh_loader.specs.declared.end.End.{End}
use Rattle.swh_loader.specs.declared.end.End.TheVariants.{Full, NotFound, Failed}
use Rattle.swh_program.specs.Inputs.{Inputs, input_of}
use Rattle.swh_exit.specs.Answers.{status_of}
use Rattle.swh_program.specs.Complete.{HasBodyOrMakes, HasOneBody}
use Rattle.swh_program.specs.Lines.{ending_of_end, worse}
use Rattle.swh_exit.specs.declared.answer.Ending.{Ending}
use Rattle.swh_exit.specs.declared.answer.Ending.TheVariants as ending
use Rattle.swh_exit.specs.declared.answer.Answer.{Answer}
use Rattle.swh_exit.specs.declared.answer.Answer.TheVariants.{Told}

-- the line of a visit that ended so: the origin, the number of its next visit, the status and the detail
abbrev pub line_for : Archive → Job → End → List ℕ
line_for a job end = report_of job.url (Ok (record { visit = length (visits_of a.origins job.url) + 1; end = end }))

-- the lines of visits, in their order
abbrev pub lines_for : Archive → List Job → List End → List ℕ
lines_for a [] ends = []
lines_for a (job ∷ jobs) [] = []
lines_for a (job ∷ jobs) (end ∷ ends) = line_for a job end ++ lines_for a jobs ends

-- how a run ends with these visits: as the worst of them makes it
abbrev pub ending_of_ends : List End → Ending
ending_of_ends [] = ending.Done
ending_of_ends (end ∷ ends) = worse (ending_of_end end) (ending_of_ends ends)

module _ (id_of : Kind → List ℕ → List ℕ) where
  -- The input means this snapshot, and no name has two bodies among what is held and what it makes.
  pub record MeansSnapshot (bodies : Bodies) (text : InputText) (snapshot : List ℕ) : Type 0 where
    pub making : StreamMeaning
    pub means : MeansInput id_of text making
    pub one : HasOneBody id_of bodies making.objects
    pub snapshot_is : snapshot ≡ making.snapshot

  -- The input would put a second body under this name.
  pub record MeansCollision (bodies : Bodies) (text : InputText) (name : Name) : Type 0 where
    pub making : StreamMeaning
    pub means : MeansInput id_of text making
    pub a : List ℕ
    pub b : List ℕ
    pub has_a : HasBodyOrMakes id_of bodies making.objects name a
    pub has_b : HasBodyOrMakes id_of bodies making.objects name b
    pub apart : a ≢ b

  -- The end of a visit that loads what an input holds, where these bodies are held; nothing where it is not all there.
  abbrev pub IsEndFor : Bodies → Option InputText → End → Type 0
  IsEndFor bodies None end = end ≡ NotFound
  IsEndFor bodies (Some text) (Full snapshot) = MeansSnapshot bodies text snapshot
  IsEndFor bodies (Some text) NotFound = ⊥
  IsEndFor bodies (Some text) (Failed (Broken bad)) = BreaksInput id_of text bad
  IsEndFor bodies (Some text) (Failed (Collision name)) = MeansCollision bodies text name
  IsEndFor bodies (Some text) (Failed Read) = ⊥

  module _ (of_jobs : Inputs) where
    -- The job's visit ended as its input has it, or in a read that failed, where a path of it has failed.
    abbrev pub IsExactEnd : Archive → Job → End → Type 0
    IsExactEnd a job end = IsEndFor a.bodies (input_of of_jobs job).found end ⊎ ((end ≡ Failed Read) × (input_of of_jobs job).failed)

    -- The jobs' visits ended so, in their order, each as its input has it.
    abbrev pub AreExactEnds : Archive → List Job → List End → Type 0
    AreExactEnds a jobs ends = AllZip (IsExactEnd a) jobs ends

    -- The answer tells one line for each job, in their order, and the worst of their endings.
    pub record TellsExactly (a : Archive) (jobs : List Job) (answer : Answer) : Type 0 where
      pub ends : List End
      pub are : AreExactEnds a jobs ends
      pub is : answer ≡ Told (lines_for a jobs ends) (ending_of_ends ends)

    -- The answer tells the jobs' lines exactly, or memory ran out.
    abbrev pub IsExact : Archive → List Job → Answer → Type 0
    IsExact a jobs answer = (status_of answer ≡ 5) ⊎ TellsExactly a jobs answer
