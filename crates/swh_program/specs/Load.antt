-- The loads of a run, and how it ends.
use Rattle.std.specs.Prelude.{◌≡◌, ◌⊎◌, ℕ, Some, false, Result, List, [], ◌∷◌, ◌++◌, map}
use Rattle.std.specs.List.{AllByRecursion}
use Rattle.swh_base.specs.declared.kind.Kind.{Kind}
use Rattle.swh_outside.specs.Disk.{File}
use Rattle.swh_outside.specs.Files.{Files, EachFilesMoment, files_done}
use Rattle.swh_model.specs.declared.event.Event.{Event}
use Rattle.swh_model.specs.declared.event.Visit.{Visit}
use Rattle.swh_model.specs.Archive.{visits_of}
use Rattle.swh_model.specs.Grows.{IsWithin, IsLaterVisit}
use Rattle.swh_model.specs.Sound.{IsSound}
use Rattle.swh_model.specs.Step.{IsHistory, visit_at, replay}
use Rattle.swh_keeper.specs.Kept.{MayHoldOneMore}
use Rattle.swh_segment.specs.Standing.{AreStanding}
use Rattle.swh_keeper.specs.Own.{AreUsable, AreOwn}
use Rattle.swh_segment.specs.Making.{barriers}
use Rattle.swh_jobs.specs.Job.{Job}
use Rattle.swh_jobs.specs.JobFile.{AreJobs, AreDistinct, origins}
use Rattle.swh_segment.specs.Calls.{all_calls}
use Rattle.swh_segment.specs.Moments.{IsSafelyMade, IsSafelyBroken, IsSafeOpening}
use Rattle.swh_loader.specs.declared.end.Loaded.{Loaded}
use Rattle.swh_ingest.specs.declared.end.LoadFault.{LoadFault}
use Rattle.swh_pool.specs.Stops.{AreStops, AreStopsOfMany, HaveNoDiskFault, HaveNoMemoryStop}
use Rattle.swh_exit.specs.Seen.{FileAt}
use Rattle.swh_program.specs.Dated.{AreSaid}
use Rattle.swh_program.specs.Jobs.{AreJobsAt, IsJobRefusal, IsJobRefused}
use Rattle.swh_exit.specs.Opening.{IsArchive, IsOnlyOpened, IsOpenRefusal, OpenEnds}
use Rattle.swh_exit.specs.declared.answer.Answer.{Answer}
use Rattle.swh_exit.specs.declared.answer.Answer.TheVariants.{OutsideClock}
use Rattle.swh_program.specs.Inputs.{Inputs}
use Rattle.swh_program.specs.InTurn.{AreLoadsInTurn, IsNextOf}
use Rattle.swh_program.specs.JobLoad.{IsJobLoad, NamesNext}
use Rattle.swh_program.specs.Lines.{LoadedJob, dates, outcomes, TellsLoad}
use Rattle.swh_program.specs.Sharing.{AreShared}

-- Each visit that was there stays there.
abbrev pub VisitsStay : List Event → List Event → Type 0
VisitsStay before after = (origin : List ℕ) (number : ℕ) (v : Visit)
    → visit_at (visits_of (replay before).origins origin) number ≡ Some v
    → IsLaterVisit v (visit_at (visits_of (replay after).origins origin) number)

-- The files stand for this history, with nothing written since a barrier; after a device fault they stand for it with
-- one event more, or without it.
pub record LeavesDisks (id_of : Kind → List ℕ → List ℕ) (ledger store : File) (after : List Event)
    (ended : List (Result Loaded LoadFault)) : Type 0 where
  pub standing : HaveNoDiskFault ended → AreStanding ledger store after
  pub doubt : (HaveNoDiskFault ended → ⊥) → MayHoldOneMore id_of ledger store after

-- A barrier was made on each file, then the device calls of the events, in order; where a disk failed, up to one of an
-- event that may happen next, and is like these. A crash at any of these calls leaves the history at entry with a front of
-- the events, which has all that were acknowledged before that call; one after them leaves all of the events, the one in
-- doubt aside.
pub record MakesRunCalls (id_of : Kind → List ℕ → List ℕ) (IsNext : Event → Type 0) (ended : List (Result Loaded LoadFault)) (old new : Files)
    (before more : List Event) : Type 0 where
  pub opening : IsSafeOpening before old
  pub made : HaveNoDiskFault ended → IsSafelyMade before more (files_done barriers old) new
  pub broken : (HaveNoDiskFault ended → ⊥) → IsSafelyBroken id_of IsNext before more (files_done barriers old) new
  -- Where the files were own at entry, a crash at any of these calls leaves them not made, or standing for a history.
  pub usable : AreOwn id_of old → EachFilesMoment (barriers ++ all_calls before more) old (AreUsable id_of)
  pub usable_broken : (fault : HaveNoDiskFault ended → ⊥) → AreOwn id_of old
      → EachFilesMoment (barriers ++ all_calls before (more ++ (broken fault).breaks.event ∷ [])) old (AreUsable id_of)

-- The files stood for a history, and nothing was done but a barrier on each, which no crash can harm.
pub record IsOpenedArchive (id_of : Kind → List ℕ → List ℕ) (old new : Files) : Type 0 where
  pub history : List Event
  pub archive : IsArchive id_of old history
  pub opened : IsOnlyOpened old new
  pub safe : IsSafeOpening history old

-- No job was loaded: the archive is refused, or the clock failed once it was opened, or memory ran out before.
abbrev pub IsUnloaded : (Kind → List ℕ → List ℕ) → Type 0 → Files → Files → Answer → Type 0
IsUnloaded id_of tells old new OutsideClock = tells → IsOpenedArchive id_of old new
IsUnloaded id_of tells old new answer = IsOpenRefusal answer × (tells → OpenEnds id_of old new answer)

-- what loads go by: the naming, the inputs of jobs, how many workers load them, what the clock says, and whether the clock
-- and the disks tell
pub record Givens : Type 1 where
  pub id_of : Kind → List ℕ → List ℕ
  pub inputs : Inputs
  pub workers : ℕ
  pub clock_tells : Type 0
  pub time : ℕ → ℕ
  pub disks_tell : Type 0

module _ (g : Givens) where
  -- The event in doubt: where one worker loads, it belongs to the load of one of the jobs.
  abbrev pub IsInDoubt : List LoadedJob → List Event → Event → Type 0
  IsInDoubt loads after event = g.workers ≡ 1 → IsNextOf g.id_of g.inputs loads after event

  -- One worker loaded the jobs one after the other. After a device fault those that follow are stopped, and no others are
  -- for a disk that failed before.
  pub record AreInTurn (loads : List LoadedJob) (before after : List Event) : Type 0 where
    pub each : AreLoadsInTurn g.id_of g.inputs loads before after
    pub stops : AreStops false (outcomes loads)

  -- Loads of jobs, by the files at entry and at the end.
  pub record IsLoad (old new : Files) (loads : List LoadedJob) : Type 0 where
    -- the history at entry, and this run's events after it
    pub before : List Event
    pub more : List Event
    pub archive : g.disks_tell → IsArchive g.id_of old before
    pub history : IsHistory g.id_of (before ++ more)
    pub disks : g.disks_tell → LeavesDisks g.id_of (new 0) (new 1) (before ++ more) (outcomes loads)
    pub calls : g.disks_tell → MakesRunCalls g.id_of (IsInDoubt loads (before ++ more)) (outcomes loads) old new before more
    -- Nothing else is added than the jobs' own events, each by the worker of its job, and this is how each load ended.
    pub shared : AreShared g.workers loads more
    pub each : AllByRecursion (IsJobLoad g.id_of g.inputs before (before ++ more)) loads
    pub stops : AreStopsOfMany (outcomes loads)
    -- Each visit is its origin's next, where no two jobs have one origin and no load stopped for want of memory.
    pub numbered : AreDistinct (origins (map (λ l. l.job) loads)) → HaveNoMemoryStop (outcomes loads) → AllByRecursion (NamesNext before) loads
    pub in_turn : g.workers ≡ 1 → AreInTurn loads before (before ++ more)
    -- What was held is held, and the visits that were there stay.
    pub held : IsWithin (replay before).bodies (replay (before ++ more)).bodies
    pub visits : VisitsStay before (before ++ more)
    -- Every full visit names a snapshot whose whole graph is held.
    pub full_is_closed : IsSound g.id_of (replay (before ++ more))

  -- The jobs were loaded, and their lines told.
  pub record AreLoadedJobs (old new : Files) (jobs : List Job) (answer : Answer) : Type 0 where
    pub loads : List LoadedJob
    pub jobs_are : map (λ l. l.job) loads ≡ jobs
    pub said : g.clock_tells → AreSaid g.time (dates loads)
    pub load : IsLoad old new loads
    pub told : TellsLoad loads answer

  -- The jobs were loaded, or none was.
  abbrev pub IsLoadedOrNot : Files → Files → List Job → Answer → Type 0
  IsLoadedOrNot old new jobs answer = AreLoadedJobs old new jobs answer ⊎ IsUnloaded g.id_of g.disks_tell old new answer

  -- The jobs of the job file at a path of the desk were loaded, or none was.
  pub record IsJobsRun (desk_at : FileAt) (path : List ℕ) (old new : Files) (answer : Answer) : Type 0 where
    pub jobs : List Job
    pub good : AreJobs jobs
    pub there : g.inputs.tell → AreJobsAt desk_at path jobs
    pub outcome : IsLoadedOrNot old new jobs answer

  -- There are no jobs, and the archive is not opened.
  pub record IsNoJobsRun (desk_at : FileAt) (path : List ℕ) (old new : Files) (answer : Answer) : Type 0 where
    pub one_of : IsJobRefusal answer
    pub refused : g.inputs.tell → IsJobRefused desk_at path answer
    pub same : g.disks_tell → new ≡ old

  -- how a run of `load` ends, by the archive at entry and at the end
  abbrev pub LoadEnds : FileAt → List ℕ → Files → Files → Answer → Type 0
  LoadEnds desk_at path old new answer = IsJobsRun desk_at path old new answer ⊎ IsNoJobsRun desk_at path old new answer
