-- What `load` does.
use Rattle.std.specs.Prelude.{◌≡◌, ◌⊎◌, ◌<◌, ◌≤◌, ◌++◌, ℕ, List, Contains, map, flat_map}
use Rattle.std.specs.List.{AllByRecursion}
use Rattle.swh_model.specs.declared.event.Event.{Event}
use Rattle.swh_model.specs.Meaning.{Made}
use Rattle.swh_model.specs.Step.{replay}
use Rattle.swh_jobs.specs.Job.{Job}
use Rattle.swh_jobs.specs.declared.fault.JobWhy.{JobWhy}
use Rattle.swh_segment.specs.Making.{IsNotMade}
use Rattle.swh_keeper.specs.Own.{AreOwn}
use Rattle.swh_exit.specs.Seen.{Span, DepotFailed, DeskFailed, ClockFailed, SinkFailed}
use Rattle.swh_exit.specs.Answers.{TellsDisk}
use Rattle.swh_exit.specs.Archives.{old_archive, new_archive, SameElsewhere}
use Rattle.swh_program.specs.Causes.{IsFullLine, HasShortLine, IsBadInput}
use Rattle.swh_program.specs.Complete.{MeantJob, jobs_of_meant, full_lines, all_made, AreMeant, HasAllGiven, HasOneBody, HasRoomForLoads, AreQuiet}
use Rattle.swh_program.specs.Exact.{IsExact}
use Rattle.swh_program.specs.Found.{found_at}
use Rattle.swh_program.specs.Inputs.{Inputs, inputs}
use Rattle.swh_program.specs.Jobs.{HasJobs, HasNoJobs, AreJobsAt, IsBadAt, bad_job_line}
use Rattle.swh_exit.specs.Damage.{damaged_line, IsHarmedAt}
use Rattle.swh_exit.specs.LeftAlone.{IsRefusedInOrder}
use Rattle.swh_program.specs.Lines.{LoadedJob, outcomes, load_line}
use Rattle.swh_program.specs.Load.{Givens, IsLoad, LoadEnds}
use Rattle.swh_exit.specs.Opening.{IsArchive, IsUnusable, IsAtMostOpened}
use Rattle.swh_exit.specs.Own.{KeepsOwn, EndsOwn}
use Rattle.swh_exit.specs.Run.{ComesTo, IsExactly, Ends, IsPrintedWith, IsPrintedUnlessFailed}
use Rattle.swh_exit.specs.declared.answer.Answer.{Answer}
use Rattle.swh_exit.specs.declared.answer.Answer.TheVariants.{OutsideSource, OutsideClock}

-- the inputs of the jobs of a run
abbrev pub inputs_of : Span → Inputs
inputs_of s = inputs s.told.origins s.old.origins.file_at s.old.origins.folder_at s.old.origins.path_faults s.new.origins.path_faults

-- what its load goes by
abbrev pub givens_of : Span → Givens
givens_of s = record {
  id_of = s.id_of;
  inputs = inputs_of s;
  workers = 1;
  clock_tells = s.told.clock;
  time = s.old.clock.time;
  disks_tell = s.told.depot;
}

-- This answer came of `load`; no files but those of its folder changed; a part of the outside that it names failed; and
-- what comes after a refusal was left alone.
pub record Loads (dir path : List ℕ) (s : Span) (answer : Answer) : Type 0 where
  pub ends : LoadEnds (givens_of s) s.old.desk.file_at path (old_archive dir s) (new_archive dir s) answer
  pub elsewhere : s.told.depot → SameElsewhere dir s.old.depot.files s.new.depot.files
  pub own : s.told.depot → KeepsOwn s.id_of (old_archive dir s) (new_archive dir s) answer
  pub disk_cause : TellsDisk answer → DepotFailed s
  pub source_cause : answer ≡ OutsideSource → DeskFailed s
  pub clock_cause : answer ≡ OutsideClock → ClockFailed s
  pub left : IsRefusedInOrder s answer

-- The jobs of the job file were loaded, their lines were printed, and the status is by the lines.
pub record IsByLines (dir path : List ℕ) (s : Span) (status : ℕ) : Type 0 where
  pub loads : List LoadedJob
  pub jobs : s.told.origins → AreJobsAt s.old.desk.file_at path (map (λ l. l.job) loads)
  pub load : IsLoad (givens_of s) (old_archive dir s) (new_archive dir s) loads
  pub printed : s.told.sink → s.new.sink.taken ≡ s.old.sink.taken ++ flat_map load_line loads
  pub full : IsExactly 0 (AllByRecursion IsFullLine (outcomes loads)) status
  pub short : IsExactly 1 (HasShortLine (outcomes loads)) status

-- Some jobs were loaded.
pub record HasLoaded (dir : List ℕ) (s : Span) : Type 0 where
  pub loads : List LoadedJob
  pub load : IsLoad (givens_of s) (old_archive dir s) (new_archive dir s) loads

-- What a run of `load` does.
pub record DoesLoad (dir path : List ℕ) (s : Span) (status : ℕ) : Type 0 where
  pub ends : Ends (Loads dir path s) s status
  -- 2: the job file is not there or has a line that breaks, and then that line is named.
  pub no_job : s.told.origins → IsExactly 2 (HasNoJobs s.old.desk.file_at path) status
  pub bad_line : (line : ℕ) (why : JobWhy) → s.told.origins → IsBadAt s.old.desk.file_at path line why
      → IsPrintedUnlessFailed (bad_job_line line why) 2 s status
  -- 3: the job file is right, and the archive is not made, or damaged; and then the first harm is told, with its place.
  pub unusable : s.told.origins → s.told.depot
      → IsExactly 3 (HasJobs s.old.desk.file_at path × IsUnusable s.id_of (old_archive dir s)) status
  pub first_harm : (file at : ℕ) → s.told.origins → s.told.depot → HasJobs s.old.desk.file_at path
      → IsHarmedAt s.id_of (old_archive dir s) file at → IsPrintedUnlessFailed (damaged_line file at) 3 s status
  -- Own files are never damaged, and stay own.
  pub undamaged : s.told.origins → s.told.depot → AreOwn s.id_of (old_archive dir s)
      → IsExactly 3 (HasJobs s.old.desk.file_at path × IsNotMade (old_archive dir s 0).seen) status
  pub own : s.told.depot → EndsOwn s.id_of (old_archive dir s) (new_archive dir s) status
  -- Of several causes the first is told: the job file's before the archive's, and the archive's before the clock's.
  pub job_first : s.told.origins → HasNoJobs s.old.desk.file_at path → status ≡ 4 → DeskFailed s ⊎ SinkFailed s
  pub archive_first : s.told.origins → s.told.depot → IsUnusable s.id_of (old_archive dir s) → status ≡ 4
      → DepotFailed s ⊎ DeskFailed s ⊎ SinkFailed s
  -- Jobs were loaded, or nothing was done to the files but barriers, as always with 2 and 3.
  pub files : s.told.depot → HasLoaded dir s ⊎ IsAtMostOpened (old_archive dir s) (new_archive dir s)
  pub refused : s.told.depot → 2 ≤ status → status < 4 → IsAtMostOpened (old_archive dir s) (new_archive dir s)
  -- 0 and 1: all lines are full, or a line is neither full nor stopped by a disk or by memory.
  pub by_lines : status < 2 → IsByLines dir path s status
  pub bad_input : (jobs : List Job) (job : Job) (before : List Event) → s.told.depot → s.told.origins
      → IsArchive s.id_of (old_archive dir s) before → AreJobsAt s.old.desk.file_at path jobs → Contains jobs job
      → IsBadInput s.id_of (replay before).bodies (found_at s.old.origins.file_at s.old.origins.folder_at job.input) → ComesTo 1 status
  -- Each job's line is the one that the archive and its input call for, or tells a read that failed, which it does only
  -- where a path of the job has failed; unless memory runs out, where no name has two bodies, the files have room at entry
  -- for what the inputs may give before their reading stops, and neither a disk nor the desk nor the clock failed.
  pub exact_lines : (before : List Event) (jobs : List Job) (objects : List Made) → s.told.depot → s.told.origins
      → IsArchive s.id_of (old_archive dir s) before → AreJobsAt s.old.desk.file_at path jobs
      → HasAllGiven s.id_of s.old.origins.file_at s.old.origins.folder_at jobs objects → HasOneBody s.id_of (replay before).bodies objects
      → HasRoomForLoads s.id_of before jobs objects
      → (DepotFailed s → ⊥) → (DeskFailed s → ⊥) → (ClockFailed s → ⊥)
      → Ends (IsExact s.id_of (inputs_of s) (replay before) jobs) s status
  -- Jobs whose inputs are there and mean something are loaded in full, unless memory runs out, where no name has two
  -- bodies, the files have room at entry for what they make, and no part of the outside failed.
  pub complete : (before : List Event) (meant : List MeantJob) → s.told.depot → s.told.origins
      → IsArchive s.id_of (old_archive dir s) before → AreJobsAt s.old.desk.file_at path (jobs_of_meant meant)
      → AreMeant s.id_of s.old.origins.file_at s.old.origins.folder_at meant → HasOneBody s.id_of (replay before).bodies (all_made meant)
      → HasRoomForLoads s.id_of before (jobs_of_meant meant) (all_made meant)
      → (DepotFailed s → ⊥) → (DeskFailed s → ⊥) → AreQuiet s.old.origins.path_faults s.new.origins.path_faults meant
      → (ClockFailed s → ⊥) → (SinkFailed s → ⊥) → IsPrintedWith (full_lines before meant) 0 s status
