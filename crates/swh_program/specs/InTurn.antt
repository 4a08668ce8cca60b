-- What holds besides where one worker loads all jobs: they are loaded one after the other, and each line is true when its
-- load ends.
use Rattle.std.specs.Prelude.{◌≡◌, ◌⊎◌, ℕ, None, Result, Ok, Err, List, [], ◌∷◌, ◌++◌, Contains}
use Rattle.swh_base.specs.declared.kind.Kind.{Kind}
use Rattle.swh_base.specs.declared.visit.Status.TheVariants.{Created}
use Rattle.swh_base.specs.declared.visit.Which.{Which}
use Rattle.swh_model.specs.declared.event.Event.{Event}
use Rattle.swh_model.specs.Judge.{FilePasses}
use Rattle.swh_model.specs.Step.{May, replay}
use Rattle.swh_ingest.specs.Owning.{Attempt, open_event}
use Rattle.swh_ingest.specs.Visiting.{next_visit, IsVisit}
use Rattle.swh_ingest.specs.declared.stop.Stop.{Stop}
use Rattle.swh_ingest.specs.declared.stop.Stop.TheVariants as why
use Rattle.swh_ingest.specs.declared.end.LoadFault.{LoadFault}
use Rattle.swh_keeperload.specs.Loading.{AreOfVisit, AddsVisit, IsOpen}
use Rattle.swh_loader.specs.Ending.{statuses_of}
use Rattle.swh_loader.specs.declared.end.Loaded.{Loaded}
use Rattle.swh_program.specs.Inputs.{loader, Inputs, Input, input_of, IsOfInput, IsInputEnd, IsOfJob}
use Rattle.swh_program.specs.JobLoad.{attempt_for}
use Rattle.swh_program.specs.Lines.{LoadedJob}

-- What a load says of its input, by the histories before it and at its own end.
module _ (id_of : Kind → List ℕ → List ℕ) (input : Input) where
  -- An event of this load that may happen next would pass a file's end.
  pub record MeetsEndNow (a : Attempt) (before after : List Event) (which : Which) (number : ℕ) : Type 0 where
    pub event : Event
    pub next : AddsVisit (IsOfInput id_of input) a before (after ++ event ∷ [])
    pub may : May id_of (replay after) event
    pub passes : FilePasses after event.what which number

  -- Why a load stopped: a disk failed, a file would pass its end, or memory ran out.
  abbrev pub StopsNowFor : Attempt → List Event → List Event → Stop → Type 0
  StopsNowFor a before after (why.Ended status) = ⊥
  StopsNowFor a before after why.DiskFault = Unit {0}
  StopsNowFor a before after why.Wounded = Unit {0}
  StopsNowFor a before after (why.Limit which number) = MeetsEndNow a before after which number
  StopsNowFor a before after why.Memory = Unit {0}

  -- A load stopped before its visit was opened, with nothing added, or once it was opened: the visit is there, has not
  -- ended, and has two statuses at most.
  pub record StopsVisitNow (a : Attempt) (before after : List Event) (fault : LoadFault) : Type 0 where
    pub visit : ((fault.visit ≡ 0) × (after ≡ before))
        ⊎ ((fault.visit ≡ next_visit before a.origin) × (more : List Event) × (after ≡ before ++ open_event a ∷ more)
        × IsOpen after a fault.visit)
    pub stops : StopsNowFor a before after fault.why

  -- The visit is the next of its origin, and ended as its input has it.
  pub record EndsVisitNow (a : Attempt) (before after : List Event) (loaded : Loaded) : Type 0 where
    pub number : loaded.visit ≡ next_visit before a.origin
    pub visit : IsVisit after a loaded.visit ((Created, None) ∷ statuses_of loaded.end)
    pub end : IsInputEnd id_of input (replay after).bodies loaded.end

  -- how the load ended
  abbrev pub IsOutcomeNow : Attempt → List Event → List Event → Result Loaded LoadFault → Type 0
  IsOutcomeNow a before after (Ok loaded) = EndsVisitNow a before after loaded
  IsOutcomeNow a before after (Err fault) = StopsVisitNow a before after fault

-- The loads of jobs with these inputs.
module _ (id_of : Kind → List ℕ → List ℕ) (of_jobs : Inputs) where
  -- One job's load, from a history to the next: nothing else is added than its visit, with what its input may
  -- give before its reading stops.
  pub record IsLoadInTurn (l : LoadedJob) (before after : List Event) : Type 0 where
    pub by_loader : l.by ≡ loader
    pub behind : after ≡ before ++ l.own
    pub are_own : AreOfVisit (IsOfJob id_of of_jobs l.job) (attempt_for l) (next_visit before l.job.url) l.own
    pub line : IsOutcomeNow id_of (input_of of_jobs l.job) (attempt_for l) before after l.outcome

  -- Each load begins where the one before it ended.
  abbrev pub AreLoadsInTurn : List LoadedJob → List Event → List Event → Type 0
  AreLoadsInTurn [] before after = after ≡ before
  AreLoadsInTurn (l ∷ loads) before after = (between : List Event) × IsLoadInTurn l before between × AreLoadsInTurn loads between after

  -- After this history the event belongs to the load of one of these jobs.
  pub record IsNextOf (loads : List LoadedJob) (after : List Event) (event : Event) : Type 0 where
    pub l : LoadedJob
    pub among : Contains loads l
    pub between : List Event
    pub adds : AddsVisit (IsOfJob id_of of_jobs l.job) (attempt_for l) between (after ++ event ∷ [])
