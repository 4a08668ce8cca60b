-- Loads of one worker, one after the other, meet no file's end where there is room for what their inputs may give.
use Rattle.std.proofs.Common.{◌≡◌, ⊎_elim, ℕ, ◌+◌, ◌*◌, ◌≤◌, Some, None, Result, Ok, Err, List, [], ◌∷◌, ◌++◌, length, Contains, subst, arith}
use Rattle.std.specs.List.{AllByRecursion}
use Rattle.swh_base.specs.declared.kind.Kind.{Kind}
use Rattle.swh_base.specs.declared.entry.Entry.{Entry}
use Rattle.swh_base.specs.declared.visit.Status.TheVariants.{Created}
use Rattle.swh_base.specs.declared.visit.Which.{Which}
use Rattle.swh_base.specs.Visit.{Statuses}
use Rattle.swh_jobs.specs.Job.{Job, IsJob}
use Rattle.swh_model.specs.declared.event.Event.{Event}
use Rattle.swh_model.specs.Archive.{empty_archive}
use Rattle.swh_model.specs.Meaning.{Made as MadeObject}
use Rattle.swh_model.specs.Step.{IsHistory}
use Rattle.swh_model.proofs.Histories.{fronts}
use Rattle.swh_format.specs.EventRecord.{AreCodable}
use Rattle.swh_inputs.specs.Input.{InputText}
use Rattle.swh_ingest.specs.Owning.{Attempt, open_event}
use Rattle.swh_ingest.specs.Visiting.{next_visit, IsVisit}
use Rattle.swh_ingest.specs.declared.stop.Stop.{Stop}
use Rattle.swh_ingest.specs.declared.stop.Stop.TheVariants as why
use Rattle.swh_ingest.specs.declared.end.LoadFault.{LoadFault}
use Rattle.swh_keeperload.specs.Loading.{AddsVisit, IsOpen}
use Rattle.swh_keeperload.proofs.Allowing.{adds_visit}
use Rattle.swh_loader.specs.Ending.{statuses_of}
use Rattle.swh_loader.specs.declared.end.Loaded.{Loaded}
use Rattle.swh_loader.proofs.Marks.{others, others_none, others_most, ended_most}
use Rattle.swh_loader.proofs.Room.{HasRoomLeft, room_after, none_meets_end}
use Rattle.swh_program.specs.Complete.{AreMade, HasAllGiven}
use Rattle.swh_program.specs.Found.{found_at}
use Rattle.swh_program.specs.Inputs.{Inputs, Input, input_of, IsOfJob}
use Rattle.swh_program.specs.InTurn.{MeetsEndNow, StopsNowFor, StopsVisitNow, IsOutcomeNow, IsLoadInTurn, AreLoadsInTurn}
use Rattle.swh_program.specs.JobLoad.{attempt_for}
use Rattle.swh_program.specs.Lines.{LoadedJob, outcomes}
use Rattle.swh_program.proofs.Fulls.{GivesWithin, are_made}
use Rattle.swh_program.proofs.Turns.{all_own, all_behind}

-- It did not stop at a file's end.
abbrev pub IsNotFilled : Stop → Type 0
IsNotFilled (why.Limit which number) = ⊥
IsNotFilled _ = Unit {0}

-- Its load did not stop at a file's end.
abbrev pub HasRoomFor : Result Loaded LoadFault → Type 0
HasRoomFor (Ok loaded) = Unit {0}
HasRoomFor (Err fault) = IsNotFilled fault.why

module _ (id_of : Kind → List ℕ → List ℕ) (of_jobs : Inputs) (told : of_jobs.tell) (all : List Job) (objects : List MadeObject)
    (has : HasAllGiven id_of of_jobs.files of_jobs.folders all objects) where
  -- what the input of a job may give is among all the objects
  module _ (job : Job) (among : Contains all job) where
    pub within : (text : InputText) → found_at of_jobs.files of_jobs.folders job.input ≡ Some text → GivesWithin id_of objects text
    within text there given may = has.has job text given among there may

    pub of_job : (entries : List Entry) → IsOfJob id_of of_jobs job entries → AreMade id_of objects entries
    of_job entries is = let t = is told in are_made id_of objects t.0 (within t.0 t.1) entries t.2

  -- one load
  module _ (l : LoadedJob) (among : Contains all l.job) (is_job : IsJob l.job) (h h' later : List Event) (history : IsHistory id_of h') (fits : AreCodable 0 (h' ++ later))
      (is : IsLoadInTurn id_of of_jobs l h h') where
    abbrev t : Attempt
    t = attempt_for l

    abbrev input : Input
    input = input_of of_jobs l.job

    made_of : (g g' : List Event) → AddsVisit (IsOfJob id_of of_jobs l.job) t g g' → AddsVisit (AreMade id_of objects) t g g'
    made_of g g' adds = adds_visit (IsOfJob id_of of_jobs l.job) (AreMade id_of objects) t (of_job l.job among) g g' adds

    made_adds : AddsVisit (AreMade id_of objects) t h h'
    made_adds = made_of h h' (record { more = l.own; behind = is.behind; are = is.are_own })

    -- it added three openings and marks at most, and two where it stopped
    most_by : (number : ℕ) (statuses : Statuses) → number ≡ next_visit h l.job.url → IsVisit h' t number statuses → others made_adds.more ≤ length statuses
    most_by number statuses same visit = others_most id_of (AreMade id_of objects) t h statuses h' history made_adds (subst (λ (n : ℕ). IsVisit h' t n statuses) same visit)

    stopped_most : (fault : LoadFault) → StopsVisitNow id_of input t h h' fault → others made_adds.more ≤ 2
    stopped_most fault stops = ⊎_elim
        (λ (once : (fault.visit ≡ 0) × (h' ≡ h)). let none = others_none (AreMade id_of objects) t h h' made_adds once.1 in omega (arith, none))
        (λ (later_on : (fault.visit ≡ next_visit h l.job.url) × (more : List Event) × (h' ≡ h ++ open_event t ∷ more) × IsOpen h' t fault.visit).
        let open_ = later_on.3 in
        let most = most_by fault.visit open_.statuses later_on.0 open_.visit in
        let few = open_.few in
        omega (arith, most, few))
        stops.visit

    outcome_most : (outcome : Result Loaded LoadFault) → IsOutcomeNow id_of input t h h' outcome → others made_adds.more ≤ 3
    outcome_most (Ok loaded) line =
        let most = most_by loaded.visit ((Created, None) ∷ statuses_of loaded.end) line.number line.visit in
        let three = ended_most loaded.end in
        omega (arith, most, three)
    outcome_most (Err fault) line = let most = stopped_most fault line in omega (arith, most)

    pub room_left : (marks left : ℕ) → 3 + left ≤ marks → HasRoomLeft id_of objects h marks → HasRoomLeft id_of objects h' left
    room_left marks left enough room =
        let most = outcome_most l.outcome is.line in
        room_after id_of objects t h h' later marks left history fits made_adds (omega (arith, most, enough)) room

    -- so none of its events met a file's end
    none_met : (fault : LoadFault) (marks : ℕ) (which : Which) (number : ℕ) → StopsVisitNow id_of input t h h' fault → 3 ≤ marks → HasRoomLeft id_of objects h marks
        → MeetsEndNow id_of input t h h' which number → ⊥
    none_met fault marks which number stops enough room meets =
        let most = stopped_most fault stops in
        let room_now = room_after id_of objects t h h' later marks 1 history fits made_adds (omega (arith, most, enough)) room in
        none_meets_end id_of objects t h h' later meets.event is_job.is_url.short fits meets.may made_adds (made_of h (h' ++ meets.event ∷ []) meets.next) room_now which number meets.passes

    pub not_filled : (marks : ℕ) → 3 ≤ marks → HasRoomLeft id_of objects h marks → (outcome : Result Loaded LoadFault) → IsOutcomeNow id_of input t h h' outcome → HasRoomFor outcome
    not_filled marks enough room (Ok loaded) line = tt
    not_filled marks enough room (Err fault) line = at fault.why line.stops
      where
        at : (reason : Stop) → StopsNowFor id_of input t h h' reason → IsNotFilled reason
        at (why.Limit which number) stops = none_met fault marks which number line enough room stops
        at _ stops = tt

  -- all of them
  pub none_filled : (loads : List LoadedJob) (h fin : List Event) → AllByRecursion (λ l. Contains all l.job) loads → AllByRecursion (λ l. IsJob l.job) loads → HasRoomLeft id_of objects h (length loads * 3)
      → IsHistory id_of fin → AreCodable 0 fin → AreLoadsInTurn id_of of_jobs loads h fin → AllByRecursion HasRoomFor (outcomes loads)
  none_filled [] h fin among good room history fits each = tt
  none_filled (l ∷ loads) h fin among good room history fits each =
      let between = each.0 in
      let on = all_behind id_of of_jobs loads between fin each.2 in
      let here : IsHistory id_of between = (fronts id_of empty_archive between (all_own loads) (subst (IsHistory id_of) on history)).0 in
      let fits_here : AreCodable 0 (between ++ all_own loads) = subst (AreCodable 0) on fits in
      let marks = length (l ∷ loads) * 3 in (
        not_filled l among.0 good.0 h between (all_own loads) here fits_here each.1 marks (omega arith) room l.outcome each.1.line,
        none_filled loads between fin among.1 good.1 (room_left l among.0 good.0 h between (all_own loads) here fits_here each.1 marks (length loads * 3) (omega arith) room) history fits each.2,
      )
