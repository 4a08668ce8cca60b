-- What a load leaves of the files, where it loads jobs and where it is refused.
use Rattle.std.proofs.Common.{◌≡◌, ◌⊎◌, inl, inr, ⊎_elim, ℕ, ◌<◌, ◌≤◌, List, arith}
use Rattle.swh_base.specs.declared.kind.Kind.{Kind}
use Rattle.swh_outside.specs.Files.{Files}
use Rattle.swh_jobs.specs.Job.{Job}
use Rattle.swh_exit.specs.Seen.{Span}
use Rattle.swh_exit.specs.Answers.{status_of, status_for}
use Rattle.swh_exit.specs.Archives.{old_archive, new_archive}
use Rattle.swh_program.specs.Lines.{LoadedJob, TellsLoad}
use Rattle.swh_program.specs.Load.{IsLoadedOrNot, IsUnloaded, LoadEnds}
use Rattle.swh_program.specs.LoadCommand.{givens_of, HasLoaded}
use Rattle.swh_exit.specs.Opening.{IsAtMostOpened, IsOpenRefusal, OpenEnds}
use Rattle.swh_exit.specs.declared.answer.Answer.{Answer}
use Rattle.swh_exit.specs.declared.answer.Answer.TheVariants.{Told, NotMade, Damaged, OutsideDisk, OutsideClock, Memory}
use Rattle.swh_program.proofs.LoadAnswers.{unloaded_cases, unloaded_clock}
use Rattle.swh_exit.proofs.Statuses.{told_status}

-- an opening that is refused does nothing but barriers
opened_at_most : (id_of : Kind → List ℕ → List ℕ) (old new : Files) (answer : Answer) → IsOpenRefusal answer → OpenEnds id_of old new answer → IsAtMostOpened old new
opened_at_most id_of old new NotMade is ends = inl (inr ends.1)
opened_at_most id_of old new (Damaged text) is ends = inl (inr ends.1)
opened_at_most id_of old new OutsideDisk is ends = ends
opened_at_most id_of old new Memory is ends = inl ends
opened_at_most id_of old new _ is ends = absurd is

unloaded_at_most : (id_of : Kind → List ℕ → List ℕ) (tells : Type 0) (old new : Files) (answer : Answer) → tells → IsUnloaded id_of tells old new answer → IsAtMostOpened old new
unloaded_at_most id_of tells old new answer t none =
    ⊎_elim
    (λ (clock : answer ≡ OutsideClock). inl (inr (unloaded_clock id_of tells old new answer clock none t).opened))
    (λ (refused : IsOpenRefusal answer × (tells → OpenEnds id_of old new answer)). opened_at_most id_of old new answer refused.0 (refused.1 t))
    (unloaded_cases id_of tells old new answer none)

-- lines are told with 0 and 1, or with 4 and 5
lines_apart : (loads : List LoadedJob) (answer : Answer) → TellsLoad loads answer → 2 ≤ status_of answer → status_of answer < 4 → ⊥
lines_apart loads (Told text end) told more less = ⊎_elim (λ (low : status_for end < 2). omega (arith, low, more)) (λ (high : 4 ≤ status_for end). omega (arith, high, less)) (told_status end)
lines_apart loads _ told more less = absurd told

module _ (dir path : List ℕ) (s : Span) (answer : Answer) (disks : s.told.depot) where
  abbrev Old : Files
  Old = old_archive dir s

  abbrev New : Files
  New = new_archive dir s

  outcome_files : (jobs : List Job) → IsLoadedOrNot (givens_of s) Old New jobs answer → HasLoaded dir s ⊎ IsAtMostOpened Old New
  outcome_files jobs (inl loaded) = inl (record { loads = loaded.loads; load = loaded.load })
  outcome_files jobs (inr none) = inr (unloaded_at_most s.id_of s.told.depot Old New answer disks none)

  pub load_files : LoadEnds (givens_of s) s.old.desk.file_at path Old New answer → HasLoaded dir s ⊎ IsAtMostOpened Old New
  load_files (inl run) = outcome_files run.jobs run.outcome
  load_files (inr none) = inr (inl (inl (none.same disks)))

  outcome_refused : (jobs : List Job) → IsLoadedOrNot (givens_of s) Old New jobs answer → (2 ≤ status_of answer) × (status_of answer < 4) → IsAtMostOpened Old New
  outcome_refused jobs (inl loaded) within = absurd (lines_apart loaded.loads answer loaded.told within.0 within.1)
  outcome_refused jobs (inr none) within = unloaded_at_most s.id_of s.told.depot Old New answer disks none

  pub refused_files : LoadEnds (givens_of s) s.old.desk.file_at path Old New answer → (2 ≤ status_of answer) × (status_of answer < 4) → IsAtMostOpened Old New
  refused_files (inl run) within = outcome_refused run.jobs run.outcome within
  refused_files (inr none) within = inl (inl (none.same disks))
