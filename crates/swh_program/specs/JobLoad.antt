-- What the load of one job says, however many workers load beside it.
use Rattle.std.specs.Prelude.{◌≡◌, ◌≢◌, ◌⊎◌, ℕ, ◌≤◌, false, Option, None, Result, Ok, Err, List, [], ◌∷◌, ◌++◌, length}
use Rattle.std.specs.List.{AllByRecursion}
use Rattle.swh_base.specs.declared.kind.Kind.{Kind}
use Rattle.swh_base.specs.declared.entry.Entry.{Entry}
use Rattle.swh_base.specs.declared.visit.Status.{Status}
use Rattle.swh_base.specs.declared.visit.Status.TheVariants.{Created}
use Rattle.swh_base.specs.declared.visit.Which.{Which}
use Rattle.swh_base.specs.Visit.{Statuses, IsFinal, last_status}
use Rattle.swh_model.specs.declared.event.Event.{Event}
use Rattle.swh_model.specs.Judge.{FilePasses}
use Rattle.swh_model.specs.Step.{May, replay}
use Rattle.swh_ingest.specs.Loading.{IsOwn}
use Rattle.swh_ingest.specs.Owning.{Attempt, attempt, open_event, marks_of}
use Rattle.swh_ingest.specs.Visiting.{next_visit, IsVisit, HasLast}
use Rattle.swh_ingest.specs.Walking.{IsBy}
use Rattle.swh_ingest.specs.declared.stop.Stop.{Stop}
use Rattle.swh_ingest.specs.declared.stop.Stop.TheVariants as why
use Rattle.swh_ingest.specs.declared.end.LoadFault.{LoadFault}
use Rattle.swh_loader.specs.Ending.{statuses_of}
use Rattle.swh_loader.specs.declared.end.Loaded.{Loaded}
use Rattle.swh_program.specs.Found.{kind_at}
use Rattle.swh_program.specs.Inputs.{Inputs, Input, input_of, IsOfInput, IsInputEnd, IsOfJob}
use Rattle.swh_program.specs.Lines.{LoadedJob}
use Rattle.swh_program.specs.Sharing.{AreInOrder}

-- who loaded a job, and when
abbrev pub attempt_for : LoadedJob → Attempt
attempt_for l = attempt l.by l.job.url (kind_at l.job.input) l.date

-- the number that the line of a load names: its visit's, or 0 where it opened none
abbrev pub visit_of : Result Loaded LoadFault → ℕ
visit_of (Ok loaded) = loaded.visit
visit_of (Err fault) = fault.visit

-- The own events of a load: none, or the opening of its visit, and then marks of that visit and batches that are allowed.
-- A batch may be empty, where others have added its objects since they were looked at.
abbrev pub AreOwnEvents : (List Entry → Type 0) → Attempt → ℕ → List Event → Type 0
AreOwnEvents IsAllowed a number [] = Unit {0}
AreOwnEvents IsAllowed a number (e ∷ es) = (e ≡ open_event a) × AllByRecursion (IsBy a.by (IsOwn false IsAllowed a number)) es

-- The visit is there and was opened by this attempt.
pub record IsThere (h : List Event) (a : Attempt) (number : ℕ) : Type 0 where
  pub statuses : Statuses
  pub visit : IsVisit h a number statuses

-- The visit is a new one of this run, and was left without an end: it was opened, and marked once at most.
pub record IsLeftOpen (a : Attempt) (before after own : List Event) (number : ℕ) : Type 0 where
  pub new : next_visit before a.origin ≤ number
  pub opened : own ≢ []
  pub few : length (marks_of own) ≤ 1
  pub unended : IsFinal (last_status ((Created, None) ∷ marks_of own)) → ⊥
  pub there : IsThere after a number

-- The load of an input, by its own events, and by the histories before and after the run.
module _ (id_of : Kind → List ℕ → List ℕ) (input : Input) where
  -- After its own events another of the load, which may happen to a history that begins the run's and has them, would pass
  -- a file's end.
  pub record MeetsEnd (a : Attempt) (before after own : List Event) (visit : ℕ) (which : Which) (number : ℕ) : Type 0 where
    pub so_far : List Event
    pub rest : List Event
    pub begins : after ≡ (before ++ so_far) ++ rest
    pub has_own : AreInOrder own so_far
    pub event : Event
    pub next : AreOwnEvents (IsOfInput id_of input) a visit (own ++ event ∷ [])
    pub may : May id_of (replay (before ++ so_far)) event
    pub passes : FilePasses (before ++ so_far) event.what which number

  -- The visit had an end already, with this status.
  abbrev pub HasEnded : Attempt → List Event → ℕ → Status → Type 0
  HasEnded a after visit status = (snapshot : Option (List ℕ)) × HasLast after a visit (status, snapshot)

  -- Why a load stopped: its visit had an end already, a disk failed, a file would pass its end, or memory ran out.
  abbrev pub StopsJobFor : Attempt → List Event → List Event → List Event → ℕ → Stop → Type 0
  StopsJobFor a before after own visit (why.Ended status) = HasEnded a after visit status
  StopsJobFor a before after own visit why.DiskFault = Unit {0}
  StopsJobFor a before after own visit why.Wounded = Unit {0}
  StopsJobFor a before after own visit (why.Limit which number) = MeetsEnd a before after own visit which number
  StopsJobFor a before after own visit why.Memory = Unit {0}

  -- A load stopped before its visit was opened, with no event of its own, or once it was opened.
  pub record StopsJob (a : Attempt) (before after own : List Event) (fault : LoadFault) : Type 0 where
    pub visit : ((fault.visit ≡ 0) × (own ≡ [])) ⊎ IsLeftOpen a before after own fault.visit
    pub stops : StopsJobFor a before after own fault.visit fault.why

  -- The visit is a new one of this run, its marks are those of its end, and it ended as its input has it.
  pub record EndsJob (a : Attempt) (before after own : List Event) (loaded : Loaded) : Type 0 where
    pub new : next_visit before a.origin ≤ loaded.visit
    pub marks : marks_of own ≡ statuses_of loaded.end
    pub visit : IsVisit after a loaded.visit ((Created, None) ∷ statuses_of loaded.end)
    pub end : IsInputEnd id_of input (replay after).bodies loaded.end

  -- how the load ended
  abbrev pub IsJobOutcome : Attempt → List Event → List Event → List Event → Result Loaded LoadFault → Type 0
  IsJobOutcome a before after own (Ok loaded) = EndsJob a before after own loaded
  IsJobOutcome a before after own (Err fault) = StopsJob a before after own fault

-- The load of a job with one of these inputs, by the histories before and after the run: its own events add nothing but
-- what its input may give before its reading stops, and its line says how its visit ended.
pub record IsJobLoad (id_of : Kind → List ℕ → List ℕ) (of_jobs : Inputs) (before after : List Event) (l : LoadedJob) : Type 0 where
  pub nothing_else : AreOwnEvents (IsOfJob id_of of_jobs l.job) (attempt_for l) (visit_of l.outcome) l.own
  pub line : IsJobOutcome id_of (input_of of_jobs l.job) (attempt_for l) before after l.own l.outcome

-- The line of a load that opened a visit names its origin's next one.
abbrev pub NamesNext : List Event → LoadedJob → Type 0
NamesNext before l = l.own ≢ [] → visit_of l.outcome ≡ next_visit before l.job.url
