-- What the events of loads are, where those of each worker are its jobs' own: each is one of some load, and of an origin there
-- is one opening at most.
use Rattle.std.proofs.Common.{◌≡◌, ◌⊎◌, inl, inr, ℕ, zero, suc, ◌+◌, ◌-◌, ◌≤◌, ◌==◌, Bool, true, false, cond, Option, None, Result, Ok, Err, List, [], ◌∷◌, ◌++◌, length, map, filter, Contains, refl, sym, ap, ◌∙◌, subst, arith, eq-eqb, length-append}
use Rattle.std.specs.List.{AllByRecursion}
use Rattle.std.specs.Str.{bytes_eq}
use Rattle.std.proofs.lemmas.Option.{slice_get_within}
use Rattle.std.proofs.lemmas.Slice.Eq.{bytes_eq-Decides}
use Rattle.swh_base.specs.declared.kind.Kind.{Kind}
use Rattle.swh_base.specs.declared.entry.Entry.{Entry}
use Rattle.swh_base.specs.declared.visit.Status.{Status}
use Rattle.swh_base.specs.declared.visit.Status.TheVariants.{Created}
use Rattle.swh_base.specs.Visit.{Statuses}
use Rattle.swh_jobs.specs.JobFile.{AreDistinct, origins}
use Rattle.swh_model.specs.declared.event.Event.{Event}
use Rattle.swh_model.specs.declared.event.EventKind.{EventKind}
use Rattle.swh_model.specs.declared.event.EventKind.TheVariants.{Batch, Open, Mark}
use Rattle.swh_model.specs.declared.event.Visit.{Visit}
use Rattle.swh_model.specs.Archive.{Archive, empty_archive, visits_of}
use Rattle.swh_model.specs.Step.{first_of, IsHistory, after, after_kind, after_all, marked_at, replay}
use Rattle.swh_model.proofs.Histories.{fronts}
use Rattle.swh_model.proofs.Maps.{visits_cases}
use Rattle.swh_model.proofs.Visits.{all-map}
use Rattle.swh_ingest.specs.Loading.{IsOwn}
use Rattle.swh_ingest.specs.Owning.{Attempt}
use Rattle.swh_ingest.specs.Visiting.{IsVisit, next_visit, visit_with}
use Rattle.swh_ingest.specs.Walking.{IsBy}
use Rattle.swh_ingest.specs.declared.end.LoadFault.{LoadFault}
use Rattle.swh_loader.specs.Ending.{statuses_of}
use Rattle.swh_loader.specs.declared.end.Loaded.{Loaded}
use Rattle.swh_program.specs.Inputs.{Inputs, input_of, IsOfJob}
use Rattle.swh_program.specs.JobLoad.{attempt_for, visit_of, AreOwnEvents, IsJobOutcome, IsJobLoad, NamesNext}
use Rattle.swh_program.specs.Lines.{LoadedJob}
use Rattle.swh_program.specs.Sharing.{by_one, loads_by, own_of}
use Rattle.swh_program.proofs.Elements.{contains_first, contains_more}
use Rattle.swh_program.proofs.Inputs.{all_append}
use Rattle.swh_program.proofs.Turns.{all_own}

-- what all of a list are those that a test keeps are
kept_first : {X : Type 0} (P : X → Type 0) (x : X) (xs : List X) (b : Bool) → P x → AllByRecursion P xs → AllByRecursion P (cond b (x ∷ xs) xs)
kept_first P x xs true first rest = (first, rest)
kept_first P x xs false first rest = rest

kept_are : {X : Type 0} (P : X → Type 0) (test : X → Bool) (xs : List X) → AllByRecursion P xs → AllByRecursion P (filter test xs)
kept_are P test [] are = tt
kept_are P test (x ∷ xs) are = kept_first P x (filter test xs) (test x) are.0 (kept_are P test xs are.1)

-- ---- each event is one of a load

module _ (Q : Event → Type 0) where
  all_of : (loads : List LoadedJob) → AllByRecursion (λ l. AllByRecursion Q l.own) loads → AllByRecursion Q (all_own loads)
  all_of [] are = tt
  all_of (l ∷ loads) are = all_append Q l.own (all_own loads) are.0 (all_of loads are.1)

  head_of : (e : Event) (es : List Event) (b : Bool) → b ≡ true → AllByRecursion Q (cond b (e ∷ es) es) → Q e
  head_of e es true same are = are.0
  head_of e es false same are = absurd (let f : false ≡ true = same in cc)

  tail_of : (e : Event) (es : List Event) (b : Bool) → AllByRecursion Q (cond b (e ∷ es) es) → AllByRecursion Q es
  tail_of e es true are = are.1
  tail_of e es false are = are

  from_each : (es : List Event) → ((by : ℕ) → AllByRecursion Q (by_one by es)) → AllByRecursion Q es
  from_each [] each = tt
  from_each (e ∷ es) each = (
    head_of e (by_one e.by es) (e.by == e.by) (eq-eqb e.by e.by refl) (each e.by),
    from_each es (λ by. tail_of e (by_one by es) (e.by == by) (each by)),
  )

  -- What all own events are all events are.
  pub all_shared : (loads : List LoadedJob) (events : List Event) → ((by : ℕ) → by_one by events ≡ own_of by loads) → AllByRecursion (λ l. AllByRecursion Q l.own) loads → AllByRecursion Q events
  all_shared loads events own are =
      from_each events (λ by. subst (AllByRecursion Q) (sym (own by)) (all_of (loads_by by loads) (kept_are (λ (l : LoadedJob). AllByRecursion Q l.own) (λ (l : LoadedJob). l.by == by) loads are)))

-- ---- the openings of visits of one origin

-- 1 for yes
abbrev one_if : Bool → ℕ
one_if true = 1
one_if false = 0

module _ (url : List ℕ) where
  abbrev opens_kind : EventKind → ℕ
  opens_kind (Open origin kind date) = one_if (bytes_eq origin url)
  opens_kind what = 0

  abbrev pub opens : List Event → ℕ
  opens [] = 0
  opens (e ∷ es) = opens_kind e.what + opens es

  opens-append : (xs ys : List Event) → opens (xs ++ ys) ≡ opens xs + opens ys
  opens-append [] ys = omega arith
  opens-append (x ∷ xs) ys = let rest = opens-append xs ys in omega (arith, rest)

  marked-length : (vs : List Visit) (k : ℕ) (status : Status) (snapshot : Option (List ℕ)) → length (marked_at vs k status snapshot) ≡ length vs
  marked-length [] k status snapshot = refl
  marked-length (v ∷ vs) zero status snapshot = refl
  marked-length (v ∷ vs) (suc k) status snapshot = ap (λ (n : ℕ). suc n) (marked-length vs k status snapshot)

  abbrev Visits : Archive → List Visit
  Visits a = visits_of a.origins url

  -- each adds a visit, and nothing else does
  visits_kind : (a : Archive) (by : ℕ) (what : EventKind) → length (Visits (after_kind a by what)) ≤ length (Visits a) + opens_kind what
  visits_kind a by (Batch entries) = omega arith
  visits_kind a by (Open origin kind date) =
      let vs = visits_of a.origins origin in
      let first = first_of (length vs + 1) date kind by in
      let more = length-append vs (first ∷ []) in
      visits_cases a.origins origin (vs ++ first ∷ []) url (λ (ws : List Visit). length ws ≤ length (Visits a) + one_if (bytes_eq origin url))
      (λ at.
      let one : one_if (bytes_eq origin url) ≡ 1 = ap one_if ((bytes_eq-Decides origin url).1 (sym at)) in
      let same : length vs ≡ length (Visits a) = ap (λ (u : List ℕ). length (visits_of a.origins u)) (sym at) in
      omega (arith, one, same, more))
      (omega arith)
  visits_kind a by (Mark origin visit status snapshot) =
      let vs = visits_of a.origins origin in
      let marked = marked-length vs (visit - 1) status snapshot in
      visits_cases a.origins origin (marked_at vs (visit - 1) status snapshot) url (λ (ws : List Visit). length ws ≤ length (Visits a) + 0)
      (λ at. let same : length vs ≡ length (Visits a) = ap (λ (u : List ℕ). length (visits_of a.origins u)) (sym at) in omega (arith, same, marked))
      (omega arith)

  visits_all : (a : Archive) (es : List Event) → length (Visits (after_all a es)) ≤ length (Visits a) + opens es
  visits_all a [] = omega arith
  visits_all a (e ∷ es) =
      let here = visits_kind a e.by e.what in
      let rest = visits_all (after a e) es in
      omega (arith, here, rest)

  -- the own events of a load open one visit, of their own origin
  opens_own : (P : List Entry → Type 0) (a : Attempt) (number : ℕ) (es : List Event) → AllByRecursion (IsBy a.by (IsOwn false P a number)) es → opens es ≡ 0
  opens_own P a number [] own = refl
  opens_own P a number (e ∷ es) own =
      let here = none e.what own.0.added in
      let rest = opens_own P a number es own.1 in
      omega (arith, here, rest)
    where
      none : (what : EventKind) → IsOwn false P a number what → opens_kind what ≡ 0
      none (Batch entries) is = refl
      none (Mark origin visit status snapshot) is = refl
      none (Open origin kind date) is = absurd is

  opens_load : (P : List Entry → Type 0) (a : Attempt) (number : ℕ) (own : List Event) → AreOwnEvents P a number own → opens own ≤ one_if (bytes_eq a.origin url)
  opens_load P a number [] are = omega arith
  opens_load P a number (e ∷ es) are =
      let first = ap (λ (x : Event). opens_kind x.what) are.0 in
      let rest = opens_own P a number es are.1 in
      omega (arith, first, rest)

  -- those of other origins none
  opens_other : (P : List Entry → Type 0) (a : Attempt) (number : ℕ) (own : List Event) → (a.origin ≡ url → ⊥) → AreOwnEvents P a number own → AllByRecursion (λ e. opens_kind e.what ≡ 0) own
  opens_other P a number own apart are = each own (let most = opens_load P a number own are in let none = ap one_if (not_same (bytes_eq a.origin url) (λ same. apart ((bytes_eq-Decides a.origin url).0 same))) in omega (arith, most, none))
    where
      not_same : (b : Bool) → (b ≡ true → ⊥) → b ≡ false
      not_same true not = absurd (not refl)
      not_same false not = refl

      each : (es : List Event) → opens es ≡ 0 → AllByRecursion (λ e. opens_kind e.what ≡ 0) es
      each [] none = tt
      each (e ∷ es) none = (omega (arith, none), each es (omega (arith, none)))

  none_open : (es : List Event) → AllByRecursion (λ e. opens_kind e.what ≡ 0) es → opens es ≡ 0
  none_open [] are = refl
  none_open (e ∷ es) are = let here = are.0 in let rest = none_open es are.1 in omega (arith, here, rest)

  -- The loads of a run whose jobs have different origins.
  module _ (id_of : Kind → List ℕ → List ℕ) (of_jobs : Inputs) (before after : List Event) where
    abbrev Loads : List LoadedJob → Type 0
    Loads loads = AllByRecursion (IsJobLoad id_of of_jobs before after) loads

    abbrev urls : List LoadedJob → List (List ℕ)
    urls loads = origins (map (λ l. l.job) loads)

    no_opens : (loads : List LoadedJob) → (Contains (urls loads) url → ⊥) → Loads loads → opens (all_own loads) ≡ 0
    no_opens [] apart each = refl
    no_opens (l ∷ loads) apart each =
        let both = opens-append l.own (all_own loads) in
        let here = none_open l.own (opens_other (IsOfJob id_of of_jobs l.job) (attempt_for l) (visit_of l.outcome) l.own (λ same. apart (subst (λ (u : List ℕ). Contains (l.job.url ∷ urls loads) u) same (contains_first l.job.url (urls loads)))) each.0.nothing_else) in
        let rest = no_opens loads (λ there. apart (contains_more l.job.url (urls loads) url there)) each.1 in
        omega (arith, both, here, rest)

    one_open : (loads : List LoadedJob) → AreDistinct (urls loads) → Loads loads → opens (all_own loads) ≤ 1
    one_open [] distinct each = omega arith
    one_open (l ∷ loads) distinct each = at (bytes_eq l.job.url url) refl (one_open loads distinct.1 each.1)
      where
        both : opens (all_own (l ∷ loads)) ≡ opens l.own + opens (all_own loads)
        both = opens-append l.own (all_own loads)

        here : opens l.own ≤ one_if (bytes_eq l.job.url url)
        here = opens_load (IsOfJob id_of of_jobs l.job) (attempt_for l) (visit_of l.outcome) l.own each.0.nothing_else

        at : (b : Bool) → bytes_eq l.job.url url ≡ b → opens (all_own loads) ≤ 1 → opens (all_own (l ∷ loads)) ≤ 1
        at true is rest =
            let most = ap one_if is in
            let none = no_opens loads (λ there. distinct.0 (subst (Contains (urls loads)) (sym ((bytes_eq-Decides l.job.url url).0 is)) there)) each.1 in
            omega (arith, both, here, most, none)
        at false is rest = let none = ap one_if is in omega (arith, both, here, none, rest)

    -- fewer loads open no more
    kept_load : (l : LoadedJob) (loads kept : List LoadedJob) (b : Bool) → opens (all_own kept) ≤ opens (all_own loads) → opens (all_own (cond b (l ∷ kept) kept)) ≤ opens (all_own (l ∷ loads))
    kept_load l loads kept true rest =
        let all = opens-append l.own (all_own loads) in
        let some = opens-append l.own (all_own kept) in
        omega (arith, rest, all, some)
    kept_load l loads kept false rest = let all = opens-append l.own (all_own loads) in omega (arith, rest, all)

    opens_kept : (test : LoadedJob → Bool) (loads : List LoadedJob) → opens (all_own (filter test loads)) ≤ opens (all_own loads)
    opens_kept test [] = omega arith
    opens_kept test (l ∷ loads) = kept_load l loads (filter test loads) (test l) (opens_kept test loads)

    -- The event opens no visit of the origin, or it is by this worker.
    abbrev OnlyBy : ℕ → Event → Type 0
    OnlyBy by e = (opens_kind e.what ≡ 0) ⊎ (e.by ≡ by)

    by_its : (P : List Entry → Type 0) (a : Attempt) (number : ℕ) (own : List Event) → AreOwnEvents P a number own → AllByRecursion (λ e. e.by ≡ a.by) own
    by_its P a number [] are = tt
    by_its P a number (e ∷ es) are = (ap (λ (x : Event). x.by) are.0, rest es are.1)
      where
        rest : (es : List Event) → AllByRecursion (IsBy a.by (IsOwn false P a number)) es → AllByRecursion (λ e. e.by ≡ a.by) es
        rest [] own = tt
        rest (e ∷ es) own = (own.0.by_one, rest es own.1)

    apart_all : (by : ℕ) (loads : List LoadedJob) → (Contains (urls loads) url → ⊥) → Loads loads → AllByRecursion (λ l. AllByRecursion (OnlyBy by) l.own) loads
    apart_all by [] apart each = tt
    apart_all by (l ∷ loads) apart each = (
      all-map (λ (e : Event). opens_kind e.what ≡ 0) (OnlyBy by) (λ e none. inl none) l.own
          (opens_other (IsOfJob id_of of_jobs l.job) (attempt_for l) (visit_of l.outcome) l.own (λ same. apart (subst (λ (u : List ℕ). Contains (l.job.url ∷ urls loads) u) same (contains_first l.job.url (urls loads)))) each.0.nothing_else),
      apart_all by loads (λ there. apart (contains_more l.job.url (urls loads) url there)) each.1,
    )

    -- one worker opens all visits of the origin
    one_opener : (loads : List LoadedJob) → AreDistinct (urls loads) → Loads loads → (by : ℕ) × AllByRecursion (λ l. AllByRecursion (OnlyBy by) l.own) loads
    one_opener [] distinct each = (0, tt)
    one_opener (l ∷ loads) distinct each = at (bytes_eq l.job.url url) refl (one_opener loads distinct.1 each.1)
      where
        at : (b : Bool) → bytes_eq l.job.url url ≡ b → (by : ℕ) × AllByRecursion (λ k. AllByRecursion (OnlyBy by) k.own) loads → (by : ℕ) × AllByRecursion (λ k. AllByRecursion (OnlyBy by) k.own) (l ∷ loads)
        at true is rest =
            let mine = all-map (λ (e : Event). e.by ≡ l.by) (OnlyBy l.by) (λ e by_it. inr by_it) l.own (by_its (IsOfJob id_of of_jobs l.job) (attempt_for l) (visit_of l.outcome) l.own each.0.nothing_else) in
            let others = apart_all l.by loads (λ there. distinct.0 (subst (Contains (urls loads)) (sym ((bytes_eq-Decides l.job.url url).0 is)) there)) each.1 in
            (l.by, (mine, others))
        at false is rest =
            let apart : l.job.url ≡ url → ⊥ = λ same. let f : true ≡ false = sym ((bytes_eq-Decides l.job.url url).1 same) ∙ is in cc in
            let mine = all-map (λ (e : Event). opens_kind e.what ≡ 0) (OnlyBy rest.0) (λ e none. inl none) l.own (opens_other (IsOfJob id_of of_jobs l.job) (attempt_for l) (visit_of l.outcome) l.own apart each.0.nothing_else) in
            (rest.0, (mine, rest.1))

    opens_first : (by : ℕ) (e : Event) (es kept : List Event) (b : Bool) → (e.by == by) ≡ b → OnlyBy by e → opens es ≤ opens kept → opens (e ∷ es) ≤ opens (cond b (e ∷ kept) kept)
    opens_first by e es kept true is only rest = omega (arith, rest)
    opens_first by e es kept false is (inl none) rest = omega (arith, rest, none)
    opens_first by e es kept false is (inr mine) rest = absurd (let f : true ≡ false = sym (eq-eqb e.by by mine) ∙ is in cc)

    opens_by : (by : ℕ) (es : List Event) → AllByRecursion (OnlyBy by) es → opens es ≤ opens (by_one by es)
    opens_by by [] are = omega arith
    opens_by by (e ∷ es) are = opens_first by e es (by_one by es) (e.by == by) refl are.0 (opens_by by es are.1)

    -- so the run opens one visit of the origin at most
    pub opened_once : (loads : List LoadedJob) (more : List Event) → ((by : ℕ) → by_one by more ≡ own_of by loads) → AreDistinct (urls loads) → Loads loads → opens more ≤ 1
    opened_once loads more own distinct each =
        let opener = one_opener loads distinct each in
        let mine = opens_by opener.0 more (all_shared (OnlyBy opener.0) loads more own opener.1) in
        let same = ap opens (own opener.0) in
        let kept = opens_kept (λ (l : LoadedJob). l.by == opener.0) loads in
        let one = one_open loads distinct each in
        omega (arith, mine, same, kept, one)

-- Each line names its origin's next visit.
module _ (id_of : Kind → List ℕ → List ℕ) (of_jobs : Inputs) (before more : List Event) (history : IsHistory id_of (before ++ more)) (loads : List LoadedJob)
    (own : (by : ℕ) → by_one by more ≡ own_of by loads) (distinct : AreDistinct (origins (map (λ l. l.job) loads))) (each : AllByRecursion (IsJobLoad id_of of_jobs before (before ++ more)) loads) where
  pub next_number : (a : Attempt) (number : ℕ) (statuses : Statuses) → next_visit before a.origin ≤ number → IsVisit (before ++ more) a number statuses → number ≡ next_visit before a.origin
  next_number a number statuses new is =
      let grown : replay (before ++ more) ≡ after_all (replay before) more = (fronts id_of empty_archive before more history).2 in
      let below = slice_get_within (visits_of (replay (before ++ more)).origins a.origin) (number - 1) (visit_with a number statuses) is.there in
      let same = ap (λ (x : Archive). length (visits_of x.origins a.origin)) grown in
      let most = visits_all a.origin (replay before) more in
      let once = opened_once a.origin id_of of_jobs before (before ++ more) loads more own distinct each in
      omega (arith, new, below, same, most, once)

  named : (l : LoadedJob) (outcome : Result Loaded LoadFault) → IsJobOutcome id_of (input_of of_jobs l.job) (attempt_for l) before (before ++ more) l.own outcome → (l.own ≡ [] → ⊥) → visit_of outcome ≡ next_visit before l.job.url
  named l (Ok loaded) line some = next_number (attempt_for l) loaded.visit ((Created, None) ∷ statuses_of loaded.end) line.new line.visit
  named l (Err fault) line some = elim line.visit [
    | inl once ↦ absurd (some once.1)
    | inr left ↦ next_number (attempt_for l) fault.visit left.there.statuses left.new left.there.visit
  ]

  pub all_numbered : (ls : List LoadedJob) → AllByRecursion (IsJobLoad id_of of_jobs before (before ++ more)) ls → AllByRecursion (NamesNext before) ls
  all_numbered [] are = tt
  all_numbered (l ∷ ls) are = (named l l.outcome are.0.line, all_numbered ls are.1)
