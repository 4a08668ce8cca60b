-- What the loads of opened inputs say of what stands at their paths.
use Rattle.std.proofs.Common.{◌≡◌, inl, inr, ℕ, ◌≤◌, Option, Some, Result, Ok, Err, List, [], ◌∷◌, ◌++◌, length, map, refl, sym, ap, ◌∙◌, subst, arith, append_assoc, length-append}
use Rattle.std.specs.List.{AllByRecursion}
use Rattle.std.proofs.lemmas.List.{append_cancel_left}
use Rattle.std.specs.Prelude.{IfSome}
use Rattle.swh_base.specs.declared.visit.VisitKind.{VisitKind}
use Rattle.swh_base.specs.declared.kind.Kind.{Kind}
use Rattle.swh_base.specs.declared.entry.Entry.{Entry}
use Rattle.swh_outside.specs.Views.{Disks}
use Rattle.swh_ingest.specs.declared.input.Opening.{Opening}
use Rattle.swh_ingest.specs.declared.input.Opening.TheVariants.{Found as Here, NotFound as Missing, Failed as Unopened, Memory as NoRoom}
use Rattle.swh_inputs.specs.Input.{InputText, BreaksInput, MayBreakInput}
use Rattle.swh_inputs.specs.Opening.{opening_of}
use Rattle.swh_inputs.specs.Parts.{Parts, TellAll, IfTold, text_of, IsSameInput}
use Rattle.swh_inputs.specs.declared.input.Input.{Input as OpenedInput}
use Rattle.swh_inputs.proofs.Founds.{found_text}
use Rattle.swh_model.specs.declared.event.Event.{Event}
use Rattle.swh_model.specs.Archive.{Bodies}
use Rattle.swh_model.specs.Step.{replay}
use Rattle.swh_keeper.specs.Kept.{Kept}
use Rattle.swh_jobs.specs.Job.{Job}
use Rattle.swh_ingest.specs.Owning.{Attempt, attempt, open_event}
use Rattle.swh_keeperload.specs.Loading.{IsEvent, IsOwnEvent, AreOfVisit, AddsVisit, Stops}
use Rattle.swh_loader.specs.Ending.{IsGivenBy, IsFull, Collided, IsEndOf, IsEndAt, IsJobEnd}
use Rattle.swh_loader.specs.Leaving.{AreAllowed, AreAllowedAt as AreAllowedAs}
use Rattle.swh_ingest.specs.Visiting.{next_visit}
use Rattle.swh_keeperload.specs.Leaving as stopping
use Rattle.swh_keeperload.proofs.Allowing.{adds_visit}
use Rattle.swh_loader.specs.declared.end.BadInput.TheVariants.{Broken, Collision, Read}
use Rattle.swh_loader.specs.declared.end.End.{End}
use Rattle.swh_loader.specs.declared.end.End.TheVariants.{Full, NotFound, Failed}
use Rattle.swh_loader.specs.declared.end.Loaded.{Loaded}
use Rattle.swh_ingest.specs.declared.stop.Stop.{Stop}
use Rattle.swh_ingest.specs.declared.stop.Stop.TheVariants as why
use Rattle.swh_ingest.specs.declared.end.LoadFault.{LoadFault}
use Rattle.swh_pool.specs.Lines.{ended}
use Rattle.swh_pool.specs.Loads.{Loading, loading, attempt_at, AreAllowedAt, OneLoad, IsLoadOutcome as IsOutcomeOf, IsOneLoad, AreLoads}
use Rattle.swh_program.specs.Dated.{IsInputAt, IsOpenedJob, AreOpenedJobs, IsGivenBack, AreGivenBack}
use Rattle.swh_program.specs.Found.{kind_at}
use Rattle.swh_program.specs.Inputs.{loader, Inputs, inputs, Input, input_of, OfText, IsOfInput, IsInputEnd}
use Rattle.swh_program.specs.Lines.{LoadedJob, dates, outcomes}
use Rattle.swh_program.specs.InTurn.{StopsNowFor, StopsVisitNow, IsOutcomeNow, IsLoadInTurn, AreLoadsInTurn}
use Rattle.swh_program.proofs.OpenedInputs.{same_kind, same_text, no_text, opening_failed, read_failed, failed_until}

-- what the line of a load is made of
abbrev pub url_and_outcome : LoadedJob → List ℕ × Result Loaded LoadFault
url_and_outcome l = (l.job.url, l.outcome)

pub all_append : {X : Type 0} (P : X → Type 0) (xs ys : List X) → AllByRecursion P xs → AllByRecursion P ys → AllByRecursion P (xs ++ ys)
all_append P [] ys h k = k
all_append P (x ∷ xs) ys h k = (h.0, all_append P xs ys h.1 k)

-- one event more of a load
module _ (P : List Entry → Type 0) (a : Attempt) (h h' : List Event) (e : Event) where
  -- its first
  pub opened_next : h' ≡ h → IsEvent (open_event a) e → AddsVisit P a h (h' ++ e ∷ [])
  opened_next same is = record { more = e ∷ []; behind = ap (λ (t : List Event). t ++ e ∷ []) same; are = (is, tt) }

  longer : (more : List Event) (o : Event) → h' ≡ h ++ [] → h' ≡ h ++ o ∷ more → ⊥
  longer more o none some = let l = sym (length-append h []) ∙ ap length (sym none ∙ some) ∙ length-append h (o ∷ more) in omega (arith, l)

  own_more : (m more : List Event) (o : Event) → h' ≡ h ++ m → h' ≡ h ++ o ∷ more → AreOfVisit P a (next_visit h a.origin) m → IsOwnEvent P a (next_visit h a.origin) e → AreOfVisit P a (next_visit h a.origin) (m ++ e ∷ [])
  own_more [] more o none some are own = absurd (longer more o none some)
  own_more (x ∷ m) more o behind some are own = (are.0, all_append (IsOwnEvent P a (next_visit h a.origin)) m (e ∷ []) are.1 (own, tt))

  -- a later one
  pub own_next : (more : List Event) (o : Event) → h' ≡ h ++ o ∷ more → AddsVisit P a h h' → IsOwnEvent P a (next_visit h a.origin) e → AddsVisit P a h (h' ++ e ∷ [])
  own_next more o opened adds own = record {
    more = adds.more ++ e ∷ [];
    behind = ap (λ (t : List Event). t ++ e ∷ []) adds.behind ∙ append_assoc h adds.more (e ∷ []);
    are = own_more adds.more more o adds.behind opened adds.are own;
  }

-- Why a load stopped.
module _ {D : Type 0} (id_of : Kind → List ℕ → List ℕ) (input : Input) (disks : Disks D) (P : List Entry → Type 0) (a : Attempt) (old new : Kept D)
    (allowed : (entries : List Entry) → P entries → IsOfInput id_of input entries) (adds : AddsVisit P a old.history new.history) where
  stops_for : (tried : Event → Type 0) → ((e : Event) → tried e → AddsVisit P a old.history (new.history ++ e ∷ [])) → (reason : Stop) → stopping.StopsFor id_of disks.faults tried old new reason
      → StopsNowFor id_of input a old.history new.history reason
  stops_for tried next (why.Ended status) stops = stops
  stops_for tried next why.DiskFault stops = tt
  stops_for tried next why.Wounded stops = tt
  stops_for tried next (why.Limit which number) stops = record {
    event = stops.event;
    next = adds_visit P (IsOfInput id_of input) a allowed old.history (new.history ++ stops.event ∷ []) (next stops.event stops.tried);
    may = stops.may;
    passes = stops.passes;
  }
  stops_for tried next why.Memory stops = tt

  stops_visit : (fault : LoadFault) → Stops id_of disks P a old new fault → StopsVisitNow id_of input a old.history new.history fault
  stops_visit fault (inl once) =
      record {
        visit = inl (once.no_visit, once.same);
        stops = stops_for (IsEvent (open_event a)) (λ e is. opened_next P a old.history new.history e once.same is) fault.why once.stops;
      }
  stops_visit fault (inr later) =
      let own = λ (e : Event) (is : IsOwnEvent P a fault.visit e). own_next P a old.history new.history e later.more (open_event a) later.opened adds (subst (λ (n : ℕ). IsOwnEvent P a n e) later.visit is) in
      record { visit = inr (later.visit, later.more, later.opened, later.unended); stops = stops_for (IsOwnEvent P a fault.visit) own fault.why later.stops }

-- a job as it was loaded
abbrev pub loaded_job : {S F : Type 0} → Job → OneLoad S F → LoadedJob
loaded_job job l = record { job = job; date = l.job.date; by = loader; own = l.own; outcome = l.outcome }

abbrev pub loaded_jobs : {S F : Type 0} → List Job → List (OneLoad S F) → List LoadedJob
loaded_jobs [] loads = []
loaded_jobs (job ∷ jobs) [] = []
loaded_jobs (job ∷ jobs) (l ∷ loads) = loaded_job job l ∷ loaded_jobs jobs loads

-- Loads of opened jobs.
module _ {S F : Type 0} (p : Parts S F) (opened_by : Inputs) where
  abbrev pub Open : List Job → List (OneLoad S F) → Type 0
  Open jobs loads = AreOpenedJobs p opened_by jobs (map (λ l. l.job) loads)

  -- their jobs, dates and outcomes
  pub same_jobs : (jobs : List Job) (loads : List (OneLoad S F)) → Open jobs loads → map (λ l. l.job) (loaded_jobs jobs loads) ≡ jobs
  same_jobs [] loads opened = refl
  same_jobs (job ∷ jobs) [] opened = absurd opened
  same_jobs (job ∷ jobs) (l ∷ loads) opened = ap (λ (more : List Job). job ∷ more) (same_jobs jobs loads opened.1)

  pub same_dates : (jobs : List Job) (loads : List (OneLoad S F)) → Open jobs loads → dates (loaded_jobs jobs loads) ≡ map (λ j. j.date) (map (λ l. l.job) loads)
  same_dates [] [] opened = refl
  same_dates [] (l ∷ loads) opened = absurd opened
  same_dates (job ∷ jobs) [] opened = absurd opened
  same_dates (job ∷ jobs) (l ∷ loads) opened = ap (λ (more : List ℕ). l.job.date ∷ more) (same_dates jobs loads opened.1)

  pub same_outcomes : (jobs : List Job) (loads : List (OneLoad S F)) → Open jobs loads → outcomes (loaded_jobs jobs loads) ≡ map (λ l. l.outcome) loads
  same_outcomes [] [] opened = refl
  same_outcomes [] (l ∷ loads) opened = absurd opened
  same_outcomes (job ∷ jobs) [] opened = absurd opened
  same_outcomes (job ∷ jobs) (l ∷ loads) opened = ap (λ (more : List (Result Loaded LoadFault)). l.outcome ∷ more) (same_outcomes jobs loads opened.1)

  -- their origins beside their outcomes
  pub same_ended : {D : Type 0} (given : Loading S F D) (jobs : List Job) (loads : List (OneLoad S F)) (old new : Kept D) → Open jobs loads → AreLoads given loads old new
      → ended (map (λ l. l.after) loads) (map (λ l. l.outcome) loads) ≡ map url_and_outcome (loaded_jobs jobs loads)
  same_ended given [] [] old new opened are = refl
  same_ended given [] (l ∷ loads) old new opened are = absurd opened
  same_ended given (job ∷ jobs) [] old new opened are = absurd opened
  same_ended given (job ∷ jobs) (l ∷ loads) old new opened are =
      let url : l.after.job.origin ≡ job.url = are.1.same_origin ∙ opened.0.origin in
      let rest = same_ended given jobs loads are.0 new opened.1 are.2 in
      λ i. (url i, l.outcome) ∷ rest i

-- what is said of a text where all parts of an input tell it
told_text : (P : InputText → Type 0) (found : Option InputText) (text : InputText) → found ≡ Some text → IfSome found P → P text
told_text P found text e h = let there : IfSome (Some text) P = subst (λ (x : Option InputText). IfSome x P) e h in there

-- The inputs of jobs: opened, and given back.
module _ {S F : Type 0} (id_of : Kind → List ℕ → List ℕ) (p : Parts S F) (opened_by : Inputs) (after : List ℕ → ℕ)
    (later : (q : List ℕ) → opened_by.failures q ≤ opened_by.failures_now q) (later_still : (q : List ℕ) → opened_by.failures_now q ≤ after q) where
  -- by the counts before the opening and after the giving back
  abbrev pub of_jobs : Inputs
  of_jobs = inputs opened_by.tell opened_by.files opened_by.folders opened_by.failures after

  abbrev pub OfJob : Job → List Entry → Type 0
  OfJob job = IsOfInput id_of (input_of of_jobs job)

  -- what is told of the text of an input that was found is told of what stands at its paths
  of_text : (P : InputText → Type 0) (job : Job) (i : OpenedInput S F) → IsInputAt p opened_by job.input i → (opened_by.tell → TellAll p i) → opening_of i ≡ Here → IfTold p i P → OfText id_of (input_of of_jobs job) P
  of_text P job i is told here h = λ t.
      let same = same_text p opened_by t job.input i is here in
      let found = found_text p i here in
      (found.0, same ∙ found.1, told_text P (text_of p i) found.0 found.1 (h (told t)))

  pub allowed : (job : Job) (i : OpenedInput S F) → IsInputAt p opened_by job.input i → (opened_by.tell → TellAll p i) → (entries : List Entry) → AreAllowed id_of p i entries → OfJob job entries
  allowed job i is told entries by = at (opening_of i) refl by
    where
      at : (o : Opening) → opening_of i ≡ o → AreAllowedAs id_of p i o entries → OfJob job entries
      at Here e h = of_text (λ text. AllByRecursion (IsGivenBy id_of text) entries) job i is told e h
      at Missing e h = absurd h
      at Unopened e h = absurd h
      at NoRoom e h = absurd h

  found_end : (job : Job) (bodies : Bodies) (i now : OpenedInput S F) → IsInputAt p opened_by job.input i → (opened_by.tell → TellAll p i) → opening_of i ≡ Here → IsSameInput p i now → IsGivenBack p opened_by.failures_now after now
      → (end : End) → IsEndOf id_of p bodies i now end → IsInputEnd id_of (input_of of_jobs job) bodies end
  found_end job bodies i now is told here same back (Full snapshot) ends = of_text (λ text. IsFull id_of text bodies snapshot) job i is told here ends
  found_end job bodies i now is told here same back NotFound ends = absurd ends
  found_end job bodies i now is told here same back (Failed (Broken bad)) ends = (subst (λ (k : VisitKind). MayBreakInput k bad) (same_kind p opened_by job.input i is) ends.may, of_text (λ text. BreaksInput id_of text bad) job i is told here ends.breaks)
  found_end job bodies i now is told here same back (Failed (Collision name)) ends = of_text (λ text. Collided id_of text bodies name) job i is told here ends
  found_end job bodies i now is told here same back (Failed Read) ends = read_failed p opened_by after later job.input i now is same back ends

  input_end : (job : Job) (bodies : Bodies) (i now : OpenedInput S F) → IsInputAt p opened_by job.input i → (opened_by.tell → TellAll p i) → IsSameInput p i now → IsGivenBack p opened_by.failures_now after now → (end : End) → IsJobEnd id_of p bodies i now end
      → IsInputEnd id_of (input_of of_jobs job) bodies end
  input_end job bodies i now is told same back end ends = at (opening_of i) refl ends
    where
      at : (o : Opening) → opening_of i ≡ o → IsEndAt id_of p bodies o i now end → IsInputEnd id_of (input_of of_jobs job) bodies end
      at Here e h = found_end job bodies i now is told e same back end h
      at Missing e h = subst (IsInputEnd id_of (input_of of_jobs job) bodies) (sym h) (λ t. no_text p opened_by t job.input i is e)
      at Unopened e h = subst (IsInputEnd id_of (input_of of_jobs job) bodies) (sym h) (failed_until opened_by.failures opened_by.failures_now after later_still job.input (opening_failed p opened_by job.input i is e))
      at NoRoom e h = absurd h

  module _ {D : Type 0} (disks : Disks D) where
    -- what the loads are done with
    abbrev pub given : Loading S F D
    given = loading id_of loader p disks

    -- who loads the job, and when
    abbrev attempt_for : Job → OneLoad S F → Attempt
    attempt_for job l = attempt loader job.url (kind_at job.input) l.job.date

    same_attempt : (job : Job) (l : OneLoad S F) → IsOpenedJob p opened_by job l.job → attempt_at given l ≡ attempt_for job l
    same_attempt job l opened = λ k. attempt loader (opened.origin k) (same_kind p opened_by job.input l.job.job.input opened.input k) l.job.date

    -- what the load of an opened job says
    line : (job : Job) (l : OneLoad S F) (old new : Kept D) → IsOpenedJob p opened_by job l.job → IsGivenBack p opened_by.failures_now after l.after.job.input
        → AddsVisit (AreAllowedAt given l) (attempt_at given l) old.history new.history → IsSameInput p l.job.job.input l.after.job.input
        → (outcome : Result Loaded LoadFault) → IsOutcomeOf given l old new outcome
        → IsOutcomeNow id_of (input_of of_jobs job) (attempt_at given l) old.history new.history outcome
    line job l old new opened back adds same (Ok loaded) is =
        record { number = is.number; visit = is.visit; end = input_end job (replay new.history).bodies l.job.job.input l.after.job.input opened.input opened.told same back loaded.end is.means }
    line job l old new opened back adds same (Err fault) is =
        stops_visit id_of (input_of of_jobs job) disks (AreAllowedAt given l) (attempt_at given l) old new (allowed job l.job.job.input opened.input opened.told) adds fault is

    -- the events that a load added
    pub adds_own : (l : OneLoad S F) (old new : Kept D) → IsOneLoad given l old new → AddsVisit (AreAllowedAt given l) (attempt_at given l) old.history new.history
    adds_own l old new is = record { more = l.own; behind = is.behind; are = is.are_own }

    pub adds_of : (job : Job) (l : OneLoad S F) (before after' : List Event) → IsOpenedJob p opened_by job l.job → AddsVisit (AreAllowedAt given l) (attempt_at given l) before after'
        → AddsVisit (OfJob job) (attempt_for job l) before after'
    adds_of job l before after' opened adds =
        subst (λ (a : Attempt). AddsVisit (OfJob job) a before after') (same_attempt job l opened)
        (adds_visit (AreAllowedAt given l) (OfJob job) (attempt_at given l) (allowed job l.job.job.input opened.input opened.told) before after' adds)

    pub one_job : (job : Job) (l : OneLoad S F) (old new : Kept D) → IsOpenedJob p opened_by job l.job → IsGivenBack p opened_by.failures_now after l.after.job.input → IsOneLoad given l old new
        → IsLoadInTurn id_of of_jobs (loaded_job job l) old.history new.history
    one_job job l old new opened back is =
        let told = line job l old new opened back (adds_own l old new is) is.same_input l.outcome is.ends in
        let adds = adds_of job l old.history new.history opened (adds_own l old new is) in
        record {
          by_loader = refl;
          behind = is.behind;
          are_own = subst (AreOfVisit (OfJob job) (attempt_for job l) (next_visit old.history job.url)) (append_cancel_left old.history adds.more l.own (sym adds.behind ∙ is.behind)) adds.are;
          line = subst (λ (a : Attempt). IsOutcomeNow id_of (input_of of_jobs job) a old.history new.history l.outcome) (same_attempt job l opened) told;
        }

    pub each_job : (jobs : List Job) (loads : List (OneLoad S F)) (old new : Kept D) → Open p opened_by jobs loads → AreGivenBack p opened_by.failures_now after (map (λ l. l.after) loads)
        → AreLoads given loads old new → AreLoadsInTurn id_of of_jobs (loaded_jobs jobs loads) old.history new.history
    each_job [] [] old new opened back are = ap (λ (k : Kept D). k.history) are
    each_job [] (l ∷ loads) old new opened back are = absurd opened
    each_job (job ∷ jobs) [] old new opened back are = absurd opened
    each_job (job ∷ jobs) (l ∷ loads) old new opened back are =
        (are.0.history, one_job job l old are.0 opened.0 back.0 are.1, each_job jobs loads are.0 new opened.1 back.1 are.2)
