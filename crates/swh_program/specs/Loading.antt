-- Loads into an archive that is open.
use Rattle.std.specs.Prelude.{◌≡◌, ◌⊎◌, ◌↔◌, false, None, List, map}
use Rattle.swh_outside.specs.Views.{Disks}
use Rattle.swh_segment.specs.Makes.{ADiskFailed}
use Rattle.swh_keeper.specs.Kept.{Kept}
use Rattle.swh_jobs.specs.Job.{Job}
use Rattle.swh_keeper.specs.Calls.{MakesCalls}
use Rattle.swh_pool.specs.Stops.{AreStops, HaveNoDiskFault}
use Rattle.swh_program.specs.Dated.{AreSaid}
use Rattle.swh_program.specs.Lines.{LoadedJob, dates, outcomes, ending_of_all, TellsLoad}
use Rattle.swh_program.specs.InTurn.{AreLoadsInTurn, IsNextOf}
use Rattle.swh_program.specs.Load.{Givens}
use Rattle.swh_exit.specs.declared.answer.Ending.TheVariants as ending
use Rattle.swh_exit.specs.declared.answer.Answer.{Answer}
use Rattle.swh_exit.specs.declared.answer.Answer.TheVariants.{OutsideClock, Memory}

-- Before any load the clock failed, or memory ran out.
abbrev pub IsUnstarted : Answer → Type 0
IsUnstarted answer = (answer ≡ OutsideClock) ⊎ (answer ≡ Memory)

-- by what the run goes by, and by what the disks tell
module _ {D : Type 0} (g : Givens) (disks : Disks D) where
  -- The loads, from one state of a keeper to another.
  pub record AreKeptLoads (loads : List LoadedJob) (old new : Kept D) : Type 0 where
    pub each : AreLoadsInTurn g.id_of g.inputs loads old.history new.history
    pub stops : AreStops false (outcomes loads)
    pub unwounded : (new.wounded ≡ None) ↔ HaveNoDiskFault (outcomes loads)
    pub rose : ending_of_all (outcomes loads) ≡ ending.OutsideDisk
        → ADiskFailed (disks.faults old.store) (disks.faults new.store) (disks.faults old.ledger) (disks.faults new.ledger)
    pub calls : disks.tells → MakesCalls g.id_of disks.file (IsNextOf g.id_of g.inputs loads new.history) old new

  -- The jobs were loaded, and their lines told.
  pub record AreKeptJobs (old new : Kept D) (jobs : List Job) (answer : Answer) : Type 0 where
    pub loads : List LoadedJob
    pub jobs_are : map (λ l. l.job) loads ≡ jobs
    pub said : g.clock_tells → AreSaid g.time (dates loads)
    pub load : AreKeptLoads loads old new
    pub told : TellsLoad loads answer

  -- The jobs were loaded and their lines told, or no job was loaded and nothing changed.
  abbrev pub IsKeptRun : Kept D → Kept D → List Job → Answer → Type 0
  IsKeptRun old new jobs answer = AreKeptJobs old new jobs answer ⊎ (IsUnstarted answer × (new ≡ old))
