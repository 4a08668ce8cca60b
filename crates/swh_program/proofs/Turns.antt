-- What loads by one worker, one after the other, are among loads by any number of workers.
use Rattle.std.proofs.Common.{◌≡◌, inl, inr, ℕ, ◌≤◌, ◌==◌, Bool, true, false, cond, None, Result, Ok, Err, List, [], ◌∷◌, ◌++◌, length, filter, flat_map, refl, sym, ap, ◌∙◌, subst, arith, append_assoc, eq-eqb}
use Rattle.std.specs.List.{AllByRecursion}
use Rattle.std.proofs.lemmas.Bool.{cases_eq, ne_eqb}
use Rattle.std.proofs.lemmas.List.{append-nil, append_cancel_left}
use Rattle.swh_base.specs.declared.kind.Kind.{Kind}
use Rattle.swh_base.specs.declared.entry.Entry.{Entry}
use Rattle.swh_base.specs.declared.visit.Status.TheVariants.{Created}
use Rattle.swh_base.specs.declared.visit.Which.{Which}
use Rattle.swh_base.specs.Visit.{Statuses, IsFinal, last_status}
use Rattle.swh_model.specs.declared.event.Event.{Event}
use Rattle.swh_model.specs.declared.event.EventKind.{EventKind}
use Rattle.swh_model.specs.declared.event.EventKind.TheVariants.{Batch, Open, Mark}
use Rattle.swh_model.specs.Archive.{empty_archive}
use Rattle.swh_model.specs.Grows.{IsWithin}
use Rattle.swh_model.specs.Judge.{FilePasses}
use Rattle.swh_model.specs.Step.{May, IsHistory, replay}
use Rattle.swh_model.proofs.Histories.{fronts}
use Rattle.swh_model.proofs.Visits.{all-map}
use Rattle.swh_keeperload.specs.Loading.{AreOfVisit, IsOwnEvent, IsOpen}
use Rattle.swh_ingest.specs.Loading.{IsOwn}
use Rattle.swh_ingest.specs.Owning.{Attempt, open_event, marks_of}
use Rattle.swh_ingest.specs.Visiting.{IsVisit, next_visit}
use Rattle.swh_ingest.specs.Walking.{IsBy}
use Rattle.swh_ingest.specs.declared.stop.Stop.{Stop}
use Rattle.swh_ingest.specs.declared.stop.Stop.TheVariants as why
use Rattle.swh_ingest.specs.declared.end.LoadFault.{LoadFault}
use Rattle.swh_loader.specs.Ending.{statuses_of}
use Rattle.swh_loader.specs.declared.end.BadInput.TheVariants.{Broken, Collision, Read}
use Rattle.swh_loader.specs.declared.end.End.{End}
use Rattle.swh_loader.specs.declared.end.End.TheVariants.{Full, NotFound, Failed}
use Rattle.swh_loader.specs.declared.end.Loaded.{Loaded}
use Rattle.swh_loader.proofs.Later.{IsVisitLater, full_later, collided_later, within_later, visit_later, next_later, ended_final}
use Rattle.swh_loader.proofs.Marks.{HasMarks, own_marks}
use Rattle.swh_pool.specs.Stops.{IsUnwounded, AreStops, HaveNoDiskFault, IsNotCutShort, HasOwnEnd, AreStopsOfMany}
use Rattle.swh_program.specs.Inputs.{loader, Inputs, Input, input_of, IsOfInput, IsInputEnd}
use Rattle.swh_program.specs.InTurn.{MeetsEndNow, StopsNowFor, EndsVisitNow, IsOutcomeNow, IsLoadInTurn, AreLoadsInTurn}
use Rattle.swh_program.specs.JobLoad.{attempt_for, visit_of, AreOwnEvents, IsLeftOpen, MeetsEnd, StopsJobFor, EndsJob, IsJobOutcome, IsJobLoad}
use Rattle.swh_program.specs.Lines.{LoadedJob, outcomes}
use Rattle.swh_program.specs.Sharing.{IsWorker, by_one, own_of, AreInOrder, AreShared}
use Rattle.swh_program.proofs.Inputs.{all_append}

-- the own events of loads, one load after the other
abbrev pub all_own : List LoadedJob → List Event
all_own loads = flat_map (λ l. l.own) loads

-- own events of one load among others
module _ (P : List Entry → Type 0) (a : Attempt) where
  own_kind : (number : ℕ) (what : EventKind) → IsOwn true P a number what → IsOwn false P a number what
  own_kind number (Batch entries) own = (λ e. absurd (let f : false ≡ true = e in cc), own.1)
  own_kind number (Mark origin visit status snapshot) own = own
  own_kind number (Open origin kind date) own = absurd own

  own_all : (number : ℕ) (es : List Event) → AllByRecursion (IsOwnEvent P a number) es → AllByRecursion (IsBy a.by (IsOwn false P a number)) es
  own_all number [] own = tt
  own_all number (e ∷ es) own = (record { by_one = own.0.by_one; added = own_kind number e.what own.0.added }, own_all number es own.1)

  -- by the number of their visit, if there is one
  own_events : (number visit : ℕ) (es : List Event) → ((es ≡ [] → ⊥) → visit ≡ number) → AreOfVisit P a number es → AreOwnEvents P a visit es
  own_events number visit [] same are = tt
  own_events number visit (e ∷ es) same are =
      (are.0, subst (λ (n : ℕ). AllByRecursion (IsBy a.by (IsOwn false P a n)) es) (sym (same (λ f. let g : e ∷ es ≡ [] = f in cc))) (own_all number es are.1))

  -- all are by its worker
  by_its : (number : ℕ) (es : List Event) → AllByRecursion (IsOwnEvent P a number) es → AllByRecursion (λ e. e.by ≡ a.by) es
  by_its number [] own = tt
  by_its number (e ∷ es) own = (own.0.by_one, by_its number es own.1)

  pub by_worker : (number : ℕ) (es : List Event) → AreOfVisit P a number es → AllByRecursion (λ e. e.by ≡ a.by) es
  by_worker number [] are = tt
  by_worker number (e ∷ es) are = (ap (λ (x : Event). x.by) are.0, by_its number es are.1)

-- a list stands among itself, and behind others
in_order_behind : {X : Type 0} (skipped xs : List X) → AreInOrder xs (skipped ++ xs)
in_order_behind skipped [] = tt
in_order_behind {X} skipped (x ∷ xs) = (skipped, xs, refl, in_order_all xs)
  where
    in_order_all : (ys : List X) → AreInOrder ys ys
    in_order_all [] = tt
    in_order_all (y ∷ ys) = ([], ys, refl, in_order_all ys)

-- ---- one load

-- What a load says at its own end, said over a history before it and one after it.
module _ (id_of : Kind → List ℕ → List ℕ) (input : Input) (a : Attempt) (start gone h own h' rest fin : List Event)
    (begun : h ≡ start ++ gone) (behind : h' ≡ h ++ own) (on : fin ≡ h' ++ rest) (history : IsHistory id_of fin)
    (are : AreOfVisit (IsOfInput id_of input) a (next_visit h a.origin) own) where
  abbrev P : List Entry → Type 0
  P entries = IsOfInput id_of input entries

  abbrev number : ℕ
  number = next_visit h a.origin

  on_history : IsHistory id_of (h' ++ rest)
  on_history = subst (IsHistory id_of) on history

  here : IsHistory id_of h'
  here = (fronts id_of empty_archive h' rest on_history).0

  earlier : IsHistory id_of h
  earlier = (fronts id_of empty_archive h own (subst (IsHistory id_of) behind here)).0

  -- its visit is new
  new_at : (visit : ℕ) → visit ≡ number → next_visit start a.origin ≤ visit
  new_at visit is =
      let less = next_later id_of start gone (subst (IsHistory id_of) begun earlier) a.origin in
      let same = ap (λ (g : List Event). next_visit g a.origin) begun in
      omega (arith, less, same, is)

  bodies_on : IsWithin (replay h').bodies (replay fin).bodies
  bodies_on = subst (λ (g : List Event). IsWithin (replay h').bodies (replay g).bodies) (sym on) (within_later id_of h' rest on_history)

  visit_on : (visit : ℕ) (statuses : Statuses) → IsVisit h' a visit statuses → IsVisitLater fin a visit statuses
  visit_on visit statuses v = subst (λ (g : List Event). IsVisitLater g a visit statuses) (sym on) (visit_later id_of h' rest on_history a visit statuses v)

  ended_on : (visit : ℕ) (end : End) → IsVisit h' a visit ((Created, None) ∷ statuses_of end) → IsVisit fin a visit ((Created, None) ∷ statuses_of end)
  ended_on visit end v =
      let statuses : Statuses = (Created, None) ∷ statuses_of end in
      let later = visit_on visit statuses v in
      subst (IsVisit fin a visit) (ap (λ (s : Statuses). statuses ++ s) (later.ended (ended_final end)) ∙ append-nil statuses) later.visit

  end_on : (end : End) → IsInputEnd id_of input (replay h').bodies end → IsInputEnd id_of input (replay fin).bodies end
  end_on (Full snapshot) is = λ t. let x = is t in (x.0, x.1, full_later id_of x.0 (replay h').bodies (replay fin).bodies bodies_on snapshot x.2)
  end_on NotFound is = is
  end_on (Failed (Broken bad)) is = is
  end_on (Failed (Collision name)) is = λ t. let x = is t in (x.0, x.1, collided_later id_of x.0 (replay h').bodies (replay fin).bodies bodies_on name x.2)
  end_on (Failed Read) is = is

  marks_at : (visit : ℕ) (statuses : Statuses) → visit ≡ number → IsVisit h' a visit statuses → HasMarks a own statuses
  marks_at visit statuses is v = own_marks id_of P a h statuses h' own behind here are (subst (λ (n : ℕ). IsVisit h' a n statuses) is v)

  ends_on : (loaded : Loaded) → EndsVisitNow id_of input a h h' loaded → EndsJob id_of input a start fin own loaded
  ends_on loaded now =
      let all : (Created, None) ∷ statuses_of loaded.end ≡ (Created, None) ∷ marks_of own = (marks_at loaded.visit ((Created, None) ∷ statuses_of loaded.end) now.number now.visit).are in
      let marks : statuses_of loaded.end ≡ marks_of own = cc in
      record { new = new_at loaded.visit now.number; marks = sym marks; visit = ended_on loaded.visit loaded.end now.visit; end = end_on loaded.end now.end }

  open_on : (visit : ℕ) → visit ≡ number → IsOpen h' a visit → IsLeftOpen a start fin own visit
  open_on visit is left =
      let marks = marks_at visit left.statuses is left.visit in
      let long = ap length marks.are in
      let few = left.few in
      let later = visit_on visit left.statuses left.visit in
      record {
        new = new_at visit is;
        opened = λ none. let f : [] ≡ open_event a ∷ marks.rest = sym none ∙ marks.opened in cc;
        few = omega (arith, long, few);
        unended = λ final. left.unended (subst (λ (s : Statuses). IsFinal (last_status s)) (sym marks.are) final);
        there = record { statuses = left.statuses ++ later.more; visit = later.visit };
      }

  -- one event more of it
  next_own : (visit : ℕ) (es : List Event) (e : Event) → ((es ≡ [] → ⊥) → visit ≡ number) → AreOfVisit P a number (es ++ e ∷ []) → AreOwnEvents P a visit (es ++ e ∷ [])
  next_own visit [] e same next = (next.0, tt)
  next_own visit (x ∷ es) e same next = own_events P a number visit (x ∷ es ++ e ∷ []) (λ some. same (λ f. let g : x ∷ es ≡ [] = f in cc)) next

  begun_own : h' ≡ start ++ (gone ++ own)
  begun_own = behind ∙ ap (λ (g : List Event). g ++ own) begun ∙ append_assoc start gone own

  meets_on : (visit : ℕ) (which : Which) (size : ℕ) → ((own ≡ [] → ⊥) → visit ≡ number) → MeetsEndNow id_of input a h h' which size → MeetsEnd id_of input a start fin own visit which size
  meets_on visit which size same now =
      let next = now.next in
      let more : next.more ≡ own ++ now.event ∷ [] =
      append_cancel_left h next.more (own ++ now.event ∷ []) (sym next.behind ∙ ap (λ (g : List Event). g ++ now.event ∷ []) behind ∙ append_assoc h own (now.event ∷ [])) in
      record {
        so_far = gone ++ own;
        rest = rest;
        begins = on ∙ ap (λ (g : List Event). g ++ rest) begun_own;
        has_own = in_order_behind gone own;
        event = now.event;
        next = next_own visit own now.event same (subst (AreOfVisit P a number) more next.are);
        may = subst (λ (g : List Event). May id_of (replay g) now.event) begun_own now.may;
        passes = subst (λ (g : List Event). FilePasses g now.event.what which size) begun_own now.passes;
      }

  stops_on : (visit : ℕ) (reason : Stop) → ((own ≡ [] → ⊥) → visit ≡ number) → StopsNowFor id_of input a h h' reason → StopsJobFor id_of input a start fin own visit reason
  stops_on visit (why.Ended status) same now = absurd now
  stops_on visit why.DiskFault same now = tt
  stops_on visit why.Wounded same now = tt
  stops_on visit (why.Limit which size) same now = meets_on visit which size same now
  stops_on visit why.Memory same now = tt

  none_added : h' ≡ h → own ≡ []
  none_added same = append_cancel_left h own [] (sym behind ∙ same ∙ sym (append-nil h))

  -- the number that its line names
  named : (outcome : Result Loaded LoadFault) → IsOutcomeNow id_of input a h h' outcome → (own ≡ [] → ⊥) → visit_of outcome ≡ number
  named (Ok loaded) now some = now.number
  named (Err fault) now some = elim now.visit [
    | inl once ↦ absurd (some (none_added once.1))
    | inr later ↦ later.0
  ]

  line_on : (outcome : Result Loaded LoadFault) → IsOutcomeNow id_of input a h h' outcome → IsJobOutcome id_of input a start fin own outcome
  line_on (Ok loaded) now = ends_on loaded now
  line_on (Err fault) now = record {
    visit = elim now.visit [
      | inl once ↦ inl (once.0, none_added once.1)
      | inr later ↦ inr (open_on fault.visit later.0 later.3)
    ];
    stops = stops_on fault.visit fault.why (named (Err fault) now) now.stops;
  }

-- ---- loads, one after the other

module _ (id_of : Kind → List ℕ → List ℕ) (of_jobs : Inputs) where
  -- Each load adds after the one before it.
  pub all_behind : (loads : List LoadedJob) (before after : List Event) → AreLoadsInTurn id_of of_jobs loads before after → after ≡ before ++ all_own loads
  all_behind [] before after are = are ∙ sym (append-nil before)
  all_behind (l ∷ loads) before after are =
      all_behind loads are.0 after are.2 ∙ ap (λ (h : List Event). h ++ all_own loads) are.1.behind ∙ append_assoc before l.own (all_own loads)

  -- Each line is true at the end of them all.
  module _ (start fin : List Event) (history : IsHistory id_of fin) where
    one_load : (l : LoadedJob) (gone h h' rest : List Event) → h ≡ start ++ gone → fin ≡ h' ++ rest → IsLoadInTurn id_of of_jobs l h h' → IsJobLoad id_of of_jobs start fin l
    one_load l gone h h' rest begun on is =
        let input = input_of of_jobs l.job in
        let a = attempt_for l in
        record {
          nothing_else = own_events (IsOfInput id_of input) a (next_visit h l.job.url) (visit_of l.outcome) l.own (named id_of input a start gone h l.own h' rest fin begun is.behind on history is.are_own l.outcome is.line) is.are_own;
          line = line_on id_of input a start gone h l.own h' rest fin begun is.behind on history is.are_own l.outcome is.line;
        }

    pub each_load : (loads : List LoadedJob) (gone h : List Event) → h ≡ start ++ gone → AreLoadsInTurn id_of of_jobs loads h fin → AllByRecursion (IsJobLoad id_of of_jobs start fin) loads
    each_load [] gone h begun are = tt
    each_load (l ∷ loads) gone h begun are = (
      one_load l gone h are.0 (all_own loads) begun (all_behind loads are.0 fin are.2) are.1,
      each_load loads (gone ++ l.own) are.0 (are.1.behind ∙ ap (λ (g : List Event). g ++ l.own) begun ∙ append_assoc start gone l.own) are.2,
    )

  -- All are by the one worker.
  loads_are : (loads : List LoadedJob) (before after : List Event) → AreLoadsInTurn id_of of_jobs loads before after → AllByRecursion (λ l. l.by ≡ loader) loads
  loads_are [] before after are = tt
  loads_are (l ∷ loads) before after are = (are.1.by_loader, loads_are loads are.0 after are.2)

  events_are : (loads : List LoadedJob) (before after : List Event) → AreLoadsInTurn id_of of_jobs loads before after → AllByRecursion (λ e. e.by ≡ loader) (all_own loads)
  events_are [] before after are = tt
  events_are (l ∷ loads) before after are =
      let mine = by_worker (IsOfInput id_of (input_of of_jobs l.job)) (attempt_for l) (next_visit before l.job.url) l.own are.1.are_own in
      all_append (λ (e : Event). e.by ≡ loader) l.own (all_own loads) (all-map (λ (e : Event). e.by ≡ l.by) (λ (e : Event). e.by ≡ loader) (λ e is. is ∙ are.1.by_loader) l.own mine) (events_are loads are.0 after are.2)

  -- None of them stopped because its visit had an end.
  end_own : (input : Input) (a : Attempt) (h h' : List Event) (outcome : Result Loaded LoadFault) → IsOutcomeNow id_of input a h h' outcome → HasOwnEnd outcome
  end_own input a h h' (Ok loaded) now = tt
  end_own input a h h' (Err fault) now = at fault.why now.stops
    where
      at : (reason : Stop) → StopsNowFor id_of input a h h' reason → IsNotCutShort reason
      at (why.Ended status) stops = stops
      at _ stops = tt

  pub ends_own : (loads : List LoadedJob) (before after : List Event) → AreLoadsInTurn id_of of_jobs loads before after → AllByRecursion HasOwnEnd (outcomes loads)
  ends_own [] before after are = tt
  ends_own (l ∷ loads) before after are = (end_own (input_of of_jobs l.job) (attempt_for l) before are.0 l.outcome are.1.line, ends_own loads are.0 after are.2)

-- ---- what is by one worker

-- all by a number that is this one, or another
kept_all : {X : Type 0} (of : X → ℕ) (k : ℕ) (xs : List X) → AllByRecursion (λ x. of x ≡ k) xs → filter (λ x. of x == k) xs ≡ xs
kept_all of k [] are = refl
kept_all {X} of k (x ∷ xs) are =
    ap (λ (b : Bool). cond b (x ∷ filter (λ x. of x == k) xs) (filter (λ x. of x == k) xs)) (eq-eqb (of x) k are.0) ∙ ap (λ (t : List X). x ∷ t) (kept_all of k xs are.1)

none_kept : {X : Type 0} (of : X → ℕ) (m k : ℕ) (xs : List X) → (m ≡ k → ⊥) → AllByRecursion (λ x. of x ≡ m) xs → filter (λ x. of x == k) xs ≡ []
none_kept of m k [] apart are = refl
none_kept {X} of m k (x ∷ xs) apart are =
    ap (λ (b : Bool). cond b (x ∷ filter (λ x. of x == k) xs) (filter (λ x. of x == k) xs)) (ne_eqb (of x) k (λ same. apart (sym are.0 ∙ same))) ∙ none_kept of m k xs apart are.1

module _ (workers : ℕ) (some : loader ≤ workers) (loads : List LoadedJob) (none : AllByRecursion (λ l. l.by ≡ loader) loads) (are : AllByRecursion (λ e. e.by ≡ loader) (all_own loads)) where
  one_alone : (by : ℕ) → by_one by (all_own loads) ≡ own_of by loads
  one_alone by = elim (cases_eq loader by) [
    | inl same ↦
        kept_all (λ (e : Event). e.by) by (all_own loads) (all-map (λ (e : Event). e.by ≡ loader) (λ (e : Event). e.by ≡ by) (λ e is. is ∙ same) (all_own loads) are)
        ∙ ap all_own (sym (kept_all (λ (l : LoadedJob). l.by) by loads (all-map (λ (l : LoadedJob). l.by ≡ loader) (λ (l : LoadedJob). l.by ≡ by) (λ l is. is ∙ same) loads none)))
    | inr apart ↦ none_kept (λ (e : Event). e.by) loader by (all_own loads) apart are ∙ ap all_own (sym (none_kept (λ (l : LoadedJob). l.by) loader by loads apart none))
  ]

  a_worker : (by : ℕ) → by ≡ loader → IsWorker workers by
  a_worker by is = (omega (arith, is), omega (arith, is, some))

  pub shared_by_one : AreShared workers loads (all_own loads)
  shared_by_one = record {
    loaders = all-map (λ (l : LoadedJob). l.by ≡ loader) (λ (l : LoadedJob). IsWorker workers l.by) (λ l is. a_worker l.by is) loads none;
    by_workers = all-map (λ (e : Event). e.by ≡ loader) (λ (e : Event). IsWorker workers e.by) (λ e is. a_worker e.by is) (all_own loads) are;
    among = λ by. subst (AreInOrder (own_of by loads)) (sym (one_alone by)) (in_order_behind [] (own_of by loads));
    alone = λ no_stop by. one_alone by;
  }

-- before a disk has failed none is stopped for one that had
unwounded_all : (ended : List (Result Loaded LoadFault)) → AreStops false ended → HaveNoDiskFault ended → AllByRecursion IsUnwounded ended
unwounded_all [] stops none = tt
unwounded_all (o ∷ ended) stops none = (stops.0, unwounded_all ended (subst (λ (failed : Bool). AreStops failed ended) none.0 stops.1) none.1)

module _ (id_of : Kind → List ℕ → List ℕ) (of_jobs : Inputs) (loads : List LoadedJob) (before after : List Event) (are : AreLoadsInTurn id_of of_jobs loads before after) where
  pub shared_in_turn : (workers : ℕ) → loader ≤ workers → AreShared workers loads (all_own loads)
  shared_in_turn workers some = shared_by_one workers some loads (loads_are id_of of_jobs loads before after are) (events_are id_of of_jobs loads before after are)

  pub stops_in_turn : AreStops false (outcomes loads) → AreStopsOfMany (outcomes loads)
  stops_in_turn stops = record { wounded = unwounded_all (outcomes loads) stops; cut_short = λ no_stop. ends_own id_of of_jobs loads before after are }
