-- How loads end together, and the lines that tell them.
use Rattle.std.specs.Prelude.{◌≡◌, ℕ, Result, Ok, Err, List, [], ◌∷◌, map, flat_map}
use Rattle.swh_jobs.specs.Job.{Job}
use Rattle.swh_model.specs.declared.event.Event.{Event}
use Rattle.swh_loader.specs.Report.{report_of}
use Rattle.swh_loader.specs.declared.end.End.{End}
use Rattle.swh_loader.specs.declared.end.End.TheVariants.{Full, NotFound, Failed}
use Rattle.swh_loader.specs.declared.end.Loaded.{Loaded}
use Rattle.swh_ingest.specs.declared.stop.Stop.{Stop}
use Rattle.swh_ingest.specs.declared.stop.Stop.TheVariants as why
use Rattle.swh_ingest.specs.declared.end.LoadFault.{LoadFault}
use Rattle.swh_exit.specs.declared.answer.Ending.{Ending}
use Rattle.swh_exit.specs.declared.answer.Ending.TheVariants as ending
use Rattle.swh_exit.specs.declared.answer.Answer.{Answer}
use Rattle.swh_exit.specs.declared.answer.Answer.TheVariants.{Told}

-- how a run ends with one job whose visit ended so
abbrev pub ending_of_end : End → Ending
ending_of_end (Full snapshot) = ending.Done
ending_of_end NotFound = ending.Wanting
ending_of_end (Failed bad) = ending.Wanting

-- how a run ends with one job whose load stopped for this reason
abbrev pub ending_of_why : Stop → Ending
ending_of_why (why.Ended status) = ending.Wanting
ending_of_why why.DiskFault = ending.OutsideDisk
ending_of_why why.Wounded = ending.OutsideDisk
ending_of_why (why.Limit which number) = ending.Wanting
ending_of_why why.Memory = ending.Memory

-- how a run ends with one job, by the outcome of its load
abbrev pub ending_for : Result Loaded LoadFault → Ending
ending_for (Ok loaded) = ending_of_end loaded.end
ending_for (Err fault) = ending_of_why fault.why

-- a job, the date of its load, which worker loaded it, the load's own events in their order, and how it ended
pub record LoadedJob : Type 0 where
  pub job : Job
  pub date : ℕ
  pub by : ℕ
  pub own : List Event
  pub outcome : Result Loaded LoadFault

-- the dates of loads
abbrev pub dates : List LoadedJob → List ℕ
dates loads = map (λ l. l.date) loads

-- the outcomes of loads
abbrev pub outcomes : List LoadedJob → List (Result Loaded LoadFault)
outcomes loads = map (λ l. l.outcome) loads

-- the worse of two: a disk that failed, then want of memory, then a job that is not full
abbrev pub worse : Ending → Ending → Ending
worse ending.Done b = b
worse ending.Wanting b = elim b [ ending.Done ↦ ending.Wanting | ending.Wanting ↦ ending.Wanting | ending.OutsideDisk ↦ ending.OutsideDisk | ending.Memory ↦ ending.Memory ]
worse ending.Memory b = elim b [ ending.Done ↦ ending.Memory | ending.Wanting ↦ ending.Memory | ending.OutsideDisk ↦ ending.OutsideDisk | ending.Memory ↦ ending.Memory ]
worse ending.OutsideDisk b = ending.OutsideDisk

-- the worst of the endings
abbrev pub ending_of_all : List (Result Loaded LoadFault) → Ending
ending_of_all [] = ending.Done
ending_of_all (o ∷ more) = worse (ending_for o) (ending_of_all more)

-- the line of a load
abbrev pub load_line : LoadedJob → List ℕ
load_line l = report_of l.job.url l.outcome

-- The text is the lines of these loads, in their order, and this is how they end together.
pub record TellsLoads (loads : List LoadedJob) (text : List ℕ) (end : Ending) : Type 0 where
  pub text_is : text ≡ flat_map load_line loads
  pub end_is : end ≡ ending_of_all (outcomes loads)

-- The answer tells the lines of these loads, and the worst of their endings.
abbrev pub TellsLoad : List LoadedJob → Answer → Type 0
TellsLoad loads (Told text end) = TellsLoads loads text end
TellsLoad loads _ = ⊥
