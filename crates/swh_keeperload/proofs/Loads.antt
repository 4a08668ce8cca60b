-- What a load leaves of a keeper.
use Rattle.std.proofs.Common.{◌≡◌, inl, inr, ℕ, true, Some, None, Result, Ok, Err, Option, List, [], ◌∷◌, ◌++◌, refl, sym, ap, ◌∙◌, subst, arith, append_assoc, le_trans}
use Rattle.std.specs.Prelude.{IfOk, IfErr}
use Rattle.std.specs.List.{AllByRecursion}
use Rattle.std.proofs.lemmas.List.{append-nil, append_cancel_left}
use Rattle.std.proofs.lemmas.Option.{none-some}
use Rattle.swh_base.specs.declared.kind.Kind.{Kind}
use Rattle.swh_base.specs.declared.entry.Entry.{Entry}
use Rattle.swh_base.specs.declared.visit.Status.{Status}
use Rattle.swh_base.specs.declared.visit.Status.TheVariants.{Created, Ongoing}
use Rattle.swh_base.specs.Visit.{Statuses, IsFinal, last_status}
use Rattle.swh_base.proofs.Elementary.{all_as}
use Rattle.swh_outside.specs.Views.{Disks}
use Rattle.swh_model.specs.declared.event.Event.{Event}
use Rattle.swh_model.specs.declared.event.EventKind.{EventKind}
use Rattle.swh_model.specs.declared.event.EventKind.TheVariants as happened
use Rattle.swh_model.specs.declared.event.Visit.{Visit}
use Rattle.swh_model.specs.declared.event.Wish.{Wish}
use Rattle.swh_model.specs.declared.event.Wish.TheVariants as wished
use Rattle.swh_model.specs.Archive.{Archive, visits_of}
use Rattle.swh_model.specs.Grows.{IsWithin}
use Rattle.swh_model.specs.Step.{FitsStatus, replay, visit_at}
use Rattle.swh_model.proofs.Entries.{all-append}
use Rattle.swh_keeper.specs.Calls.{MakesCallsOf}
use Rattle.swh_keeper.specs.Kept.{Kept, RefusesPlan}
use Rattle.swh_keeper.specs.declared.fault.Refusal as kept
use Rattle.swh_keeper.specs.declared.fault.Refusal.TheVariants as refusal
use Rattle.swh_ingest.specs.Knowing.{Protocol, IsLawful}
use Rattle.swh_ingest.proofs.Growing.{replay-append}
use Rattle.swh_ingest.specs.declared.end.Loaded.{Loaded}
use Rattle.swh_ingest.specs.declared.end.LoadFault.{LoadFault}
use Rattle.swh_ingest.specs.declared.stop.Stop.{Stop}
use Rattle.swh_ingest.specs.Loading.{IsOwn, IsOwnAsked, AreUnended, EndsOwn, StopsLoad, StopsOpened, StopsUnopened, statuses_of}
use Rattle.swh_ingest.specs.Owning.{Attempt, open_event, marks_in, marks_of, IsWished}
use Rattle.swh_ingest.specs.Stopping.{IsWhyOf}
use Rattle.swh_ingest.specs.Visiting.{IsVisit, next_visit, visit_with}
use Rattle.swh_ingest.specs.Walking.{Adds, IsBy, IsReadyFor, Opens, StopsNow}
use Rattle.swh_ingest.proofs.Marks.{marked_there, same_visit}
use Rattle.swh_ingest.proofs.Steps.{adds_within}
use Rattle.swh_keeperload.specs.Alone.{AddsOn, alone_protocol}
use Rattle.swh_keeperload.specs.Lawful.{alone_lawful}
use Rattle.swh_keeperload.specs.Leaving.{KeepsAll}
use Rattle.swh_keeperload.specs.Loading.{IsEvent, IsOwnEvent, AreOfVisit, AddsVisit, IsOpen, StopsUnchanged, MakesVisitCalls, StopsAtOnce, StopsLater, Stops, IsHeldBack, EndsVisit, NoCountFell}
use Rattle.swh_keeperload.specs.Refusing.{destination_refusal}
use Rattle.swh_keeperload.proofs.Batches.{sure_batch}
use Rattle.swh_keeperload.proofs.Leaving.{IsSure, StopsAt, added_calls, calls_then, stops_now, stops_then}

-- A visit has the statuses that its load's own events give.
module _ (A : List Entry → Type 0) (t : Attempt) (number : ℕ) where
  gained : (h : List Event) (by : ℕ) (what : EventKind) (statuses : Statuses) → IsOwn true A t number what → IsVisit h t number statuses → IsVisit (h ++ record { by = by; what = what } ∷ []) t number (statuses ++ marks_in what)
  gained h by (happened.Batch entries) statuses own v =
      let e : Event = record { by = by; what = happened.Batch entries } in
      let same : visits_of (replay (h ++ e ∷ [])).origins t.origin ≡ visits_of (replay h).origins t.origin = ap (λ (x : Archive). visits_of x.origins t.origin) (replay-append h (e ∷ [])) in
      record {
        positive = v.positive;
        there = ap (λ (vs : List Visit). visit_at vs number) same ∙ v.there ∙ ap (λ (ss : Statuses). Some (visit_with t number ss)) (sym (append-nil statuses));
      }
  gained h by (happened.Mark origin visit status snapshot) statuses own v =
      subst (λ (o : List ℕ). IsVisit (h ++ record { by = by; what = happened.Mark o visit status snapshot } ∷ []) t number (statuses ++ (status, snapshot) ∷ [])) (sym own.0)
      (subst (λ (n : ℕ). IsVisit (h ++ record { by = by; what = happened.Mark t.origin n status snapshot } ∷ []) t number (statuses ++ (status, snapshot) ∷ [])) (sym own.1) (marked_there h by t number statuses status snapshot v))
  gained h by (happened.Open origin kind date) statuses own v = absurd own

  pub all_gained : (by : ℕ) (es : List Event) (h : List Event) (statuses : Statuses) → AllByRecursion (IsBy by (IsOwn true A t number)) es → IsVisit h t number statuses → IsVisit (h ++ es) t number (statuses ++ marks_of es)
  all_gained by [] h statuses own v = subst (λ (x : List Event). IsVisit x t number (statuses ++ [])) (sym (append-nil h)) (subst (IsVisit h t number) (sym (append-nil statuses)) v)
  all_gained by (e ∷ es) h statuses own v =
      subst (λ (x : List Event). IsVisit x t number (statuses ++ (marks_in e.what ++ marks_of es))) (append_assoc h (e ∷ []) es)
      (subst (IsVisit ((h ++ e ∷ []) ++ es) t number) (append_assoc statuses (marks_in e.what) (marks_of es))
      (all_gained by es (h ++ e ∷ []) (statuses ++ marks_in e.what) own.1 (gained h e.by e.what statuses own.0.added v)))

  pub unended_open : (h : List Event) (marks : Statuses) → AreUnended marks → IsVisit h t number ((Created, None) ∷ marks) → IsOpen h t number
  unended_open h marks (inl none) v = record { statuses = (Created, None) ∷ []; visit = subst (λ (m : Statuses). IsVisit h t number ((Created, None) ∷ m)) none v; unended = λ final. final; few = omega arith }
  unended_open h marks (inr one) v =
      record { statuses = (Created, None) ∷ (Ongoing, None) ∷ []; visit = subst (λ (m : Statuses). IsVisit h t number ((Created, None) ∷ m)) one v; unended = λ final. final; few = omega arith }

  module _ (id : Kind → List ℕ → List ℕ) (Q : Event → Type 0) (f : (e : Event) → IsOwnEvent A t number e → Q e) (h : List Event) (still : IsOpen h t number) where
    sure_mark : (status : Status) (snapshot : Option (List ℕ)) → FitsStatus (replay h).bodies status snapshot → IsSure id t.by Q h (wished.Mark t.origin number status snapshot)
    sure_mark status snapshot fits =
        let mine : Visit = visit_with t number still.statuses in record {
          tried = f (record { by = t.by; what = happened.Mark t.origin number status snapshot }) (record { by_one = refl; added = (refl, refl) });
          may = record { visit = mine; positive = still.visit.positive; there = still.visit.there; opened = refl; unended = still.unended; fits = fits };
          full = λ which counted is. is;
          unended = λ last c.
              let same : c.0 ≡ mine = same_visit (visit_at (visits_of (replay h).origins t.origin) number) c.0 mine c.1.1 still.visit.there in
              still.unended (subst IsFinal (c.2 ∙ ap (λ (x : Visit). last_status x.statuses) same) c.3);
        }

    -- what a load asks for is surely done
    pub sure_own : (wish : Wish) → IsOwnAsked A t number wish → IsReadyFor id true (replay h).bodies wish → IsSure id t.by Q h wish
    sure_own (wished.Batch entries) asked ready =
        sure_batch id t.by Q h entries (f (record { by = t.by; what = happened.Batch entries }) (record { by_one = refl; added = (λ one. asked.0, asked.1) })) ready
    sure_own (wished.Mark origin visit status snapshot) asked ready =
        subst (λ (o : List ℕ). IsSure id t.by Q h (wished.Mark o visit status snapshot)) (sym asked.0)
        (subst (λ (n : ℕ). IsSure id t.by Q h (wished.Mark t.origin n status snapshot)) (sym asked.1) (sure_mark status snapshot ready))
    sure_own (wished.Open origin kind date) asked ready = absurd asked

sure_open : (id : Kind → List ℕ → List ℕ) (t : Attempt) (Q : Event → Type 0) (h : List Event) → Q (open_event t) → (wish : Wish) → IsWished (wished.Open t.origin t.kind t.date) wish → IsSure id t.by Q h wish
sure_open id t Q h tried wish is = subst (IsSure id t.by Q h) (sym is) (record { tried = tried; may = tt; full = λ which number c. c; unended = λ status c. c })

-- Where a disk had failed before, nothing is changed.
held_back : {D : Type 0} (a b : Kept D) (n by : ℕ) (wish : Wish) (r : kept.Refusal) (stop : Stop) → a.wounded ≡ Some n → RefusesPlan a by wish b r → IsWhyOf (destination_refusal r) stop → StopsUnchanged a b stop
held_back a b n by wish (refusal.Wounded first) stop some h is = record { same = h.1; cause = inl is }
held_back a b n by wish (refusal.Memory stands) stop some h is = record { same = h.1; cause = inr is }
held_back a b n by wish refusal.DiskFault stop some h is = absurd (none-some n (sym h.before_it ∙ some))
held_back a b n by wish (refusal.Limit which number) stop some h is = absurd (none-some n (sym h.unwounded ∙ some))
held_back a b n by wish (refusal.NoVisit have) stop some h is = absurd (none-some n (sym h.unwounded ∙ some))
held_back a b n by wish (refusal.NotYours other) stop some h is = absurd (none-some n (sym h.unwounded ∙ some))
held_back a b n by wish (refusal.Ended status) stop some h is = absurd (none-some n (sym h.unwounded ∙ some))
held_back a b n by wish (refusal.NoSnapshot name) stop some h is = absurd (none-some n (sym h.unwounded ∙ some))
held_back a b n by wish (refusal.NotClosed parent child) stop some h is = absurd (none-some n (sym h.unwounded ∙ some))
held_back a b n by wish (refusal.Collision name) stop some h is = absurd (none-some n (sym h.unwounded ∙ some))

module _ {D : Type 0} (id : Kind → List ℕ → List ℕ) (disks : Disks D) (A : List Entry → Type 0) (t : Attempt) where
  abbrev Ws : Protocol (Kept D)
  Ws = alone_protocol id disks t.by

  law : IsLawful id Ws
  law = alone_lawful id disks t.by

  now_held : (IsTried : Wish → Type 0) (a b : Kept D) (n : ℕ) (stop : Stop) → a.wounded ≡ Some n → StopsNow id Ws IsTried a b stop → StopsUnchanged a b stop
  now_held IsTried a b n stop some (inl (is, same)) = record { same = same; cause = inr is }
  now_held IsTried a b n stop some (inr h) = held_back a b n t.by h.wish h.refuses.fails.refused stop some h.refuses.fails.refuses (subst (λ r. IsWhyOf r stop) h.refuses.fails.is h.is_why)

  -- A visit that was opened, and own events of its load.
  module _ (a m b : Kept D) (number : ℕ) (marks : Statuses) (opened : Opens id Ws t a m number) (own : Adds Ws (IsOwn true A t number) marks m b) where
    next : number ≡ next_visit a.history t.origin
    next = opened.next ∙ ap (λ (h : List Event). next_visit h t.origin) (opened.follows.behind ∙ ap (λ (gap : List Event). a.history ++ gap) (opened.follows.quiet refl) ∙ append-nil a.history)

    all_added : AddsOn id disks (open_event t ∷ own.own) a b
    all_added = law.further (open_event t ∷ []) own.own a m b opened.adds own.adds

    so_far : IsVisit b.history t number ((Created, None) ∷ marks)
    so_far =
        subst (λ (h : List Event). IsVisit h t number ((Created, None) ∷ marks)) (sym own.adds.behind)
        (subst (λ (ss : Statuses). IsVisit (m.history ++ own.own) t number ((Created, None) ∷ ss)) own.marked
        (all_gained A t number t.by own.own m.history ((Created, None) ∷ []) own.each opened.visit))

    each_own : AllByRecursion (IsOwnEvent A t (next_visit a.history t.origin)) own.own
    each_own = subst (λ (n : ℕ). AllByRecursion (IsOwnEvent A t n) own.own) next own.each

    within : IsWithin (replay a.history).bodies (replay b.history).bodies
    within = adds_within id Ws law (λ what. Unit {0}) (marks_of (open_event t ∷ own.own)) a b
        (record { own = open_event t ∷ own.own; each = (record { by_one = refl; added = tt }, all_as (IsBy t.by (IsOwn true A t number)) (IsBy t.by (λ what. Unit {0})) (λ e h. record { by_one = h.by_one; added = tt }) own.own own.each); marked = refl; adds = all_added })

    visit_added : (k : Kept D) → k.history ≡ b.history → AddsVisit A t a.history k.history
    visit_added k same = record { more = open_event t ∷ own.own; behind = same ∙ all_added.behind; are = (refl, each_own) }

    keeps : KeepsAll a b
    keeps = record { more = open_event t ∷ own.own; added = all_added.behind; unwounded = all_added.unwounded; within = within }

    -- what may come next
    abbrev IsNext : Event → Type 0
    IsNext e = AreOfVisit A t (next_visit a.history t.origin) (open_event t ∷ (own.own ++ e ∷ []))

    own_next : (e : Event) → IsOwnEvent A t number e → IsNext e
    own_next e h = (refl, all-append (IsOwnEvent A t (next_visit a.history t.origin)) own.own (e ∷ []) each_own (subst (λ (n : ℕ). IsOwnEvent A t n e) next h, tt))

    -- the calls of those events, and of what came next
    made_calls : (k : Kept D) → k.history ≡ b.history → MakesCallsOf id disks.file IsNext (open_event t ∷ own.own) a k → MakesVisitCalls id disks A t a k
    made_calls k same calls more behind =
        subst (λ (x : List Event). MakesCallsOf id disks.file (λ e. AreOfVisit A t (next_visit a.history t.origin) (x ++ e ∷ [])) x a k)
        (append_cancel_left a.history (open_event t ∷ own.own) more (sym all_added.behind ∙ sym same ∙ behind)) calls

  -- A load that ended.
  ended : {B : Type 0} (a b : Kept D) (loaded : Loaded B) → EndsOwn id Ws A t a b loaded → EndsVisit t a b loaded.visit (statuses_of loaded.end)
  ended a b loaded h = record {
    number = next a h.mid b loaded.visit (statuses_of loaded.end) h.opened h.own;
    visit = so_far a h.mid b loaded.visit (statuses_of loaded.end) h.opened h.own;
    on = keeps a h.mid b loaded.visit (statuses_of loaded.end) h.opened h.own;
    before_it = h.opened.adds.before_it;
  }

  ended_calls : {B : Type 0} (a b : Kept D) (loaded : Loaded B) → EndsOwn id Ws A t a b loaded → disks.tells → MakesVisitCalls id disks A t a b
  ended_calls a b loaded h told =
      let marks = statuses_of loaded.end in
      made_calls a h.mid b loaded.visit marks h.opened h.own b refl
      (added_calls id disks t.by (open_event t ∷ h.own.own) (IsNext a h.mid b loaded.visit marks h.opened h.own) a b (all_added a h.mid b loaded.visit marks h.opened h.own) told)

  -- A load that stopped once its visit was opened.
  module _ (a b : Kept D) (fault : LoadFault) (h : StopsOpened id Ws A t a b fault) where
    abbrev Last : Kept D
    Last = h.later.after_them.mid

    abbrev Marks : Statuses
    Marks = h.later.marks

    first : Adds Ws (IsOwn true A t fault.visit) Marks h.mid Last
    first = h.later.after_them.first

    to_last : AddsOn id disks (open_event t ∷ first.own) a Last
    to_last = all_added a h.mid Last fault.visit Marks h.opened first

    last_open : IsOpen Last.history t fault.visit
    last_open = unended_open A t fault.visit Last.history Marks h.later.unended (so_far a h.mid Last fault.visit Marks h.opened first)

    last_stops : (Q : Event → Type 0) → ((e : Event) → IsOwnEvent A t fault.visit e → Q e) → StopsAt id disks Q Last b fault.why
    last_stops Q f = stops_now id disks t.by Q (IsOwnAsked A t fault.visit) Last b fault.why (sure_own A t fault.visit id Q f Last.history last_open) h.later.after_them.stops

    own_stops : StopsAt id disks (IsOwnEvent A t fault.visit) Last b fault.why
    own_stops = last_stops (IsOwnEvent A t fault.visit) (λ e is. is)

    later_stops : StopsLater id disks A t a b fault
    later_stops = record {
      visit = next a h.mid Last fault.visit Marks h.opened first;
      more = first.own;
      opened = own_stops.same ∙ to_last.behind;
      unended = subst (λ (x : List Event). IsOpen x t fault.visit) (sym own_stops.same) last_open;
      stops = stops_then id disks t.by (IsOwnEvent A t fault.visit) a Last b fault.why to_last.before_it to_last.unwounded to_last.store_later to_last.ledger_later own_stops.stops;
    }

    later_added : AddsVisit A t a.history b.history
    later_added = visit_added a h.mid Last fault.visit Marks h.opened first b own_stops.same

    later_calls : disks.tells → MakesVisitCalls id disks A t a b
    later_calls told =
        let Q = IsNext a h.mid Last fault.visit Marks h.opened first in
        let c = (last_stops Q (own_next a h.mid Last fault.visit Marks h.opened first)).calls told in
        made_calls a h.mid Last fault.visit Marks h.opened first b own_stops.same
        (subst (λ (x : List Event). MakesCallsOf id disks.file Q x a b) (append-nil (open_event t ∷ first.own)) (calls_then id disks t.by Q (open_event t ∷ first.own) [] a Last b to_last told c))

    later_counts : NoCountFell disks a b
    later_counts = record { store = le_trans to_last.store_later own_stops.store_later; ledger = le_trans to_last.ledger_later own_stops.ledger_later }

  -- And one that stopped before.
  module _ (a b : Kept D) (fault : LoadFault) (h : StopsUnopened id Ws A t a b fault) where
    once_at : (Q : Event → Type 0) → Q (open_event t) → StopsAt id disks Q a b fault.why
    once_at Q tried = stops_now id disks t.by Q (IsWished (wished.Open t.origin t.kind t.date)) a b fault.why (λ wish is ready. sure_open id t Q a.history tried wish is) h.now

    once : StopsAt id disks (IsEvent (open_event t)) a b fault.why
    once = once_at (IsEvent (open_event t)) refl

    once_stops : StopsAtOnce id disks t a b fault
    once_stops = record { no_visit = h.no_visit; same = once.same; stops = once.stops }

    once_added : AddsVisit A t a.history b.history
    once_added = record { more = []; behind = once.same ∙ sym (append-nil a.history); are = tt }

    once_calls : disks.tells → MakesVisitCalls id disks A t a b
    once_calls told more behind =
        subst (λ (x : List Event). MakesCallsOf id disks.file (λ e. AreOfVisit A t (next_visit a.history t.origin) (x ++ e ∷ [])) x a b)
        (append_cancel_left a.history [] more (append-nil a.history ∙ sym once.same ∙ behind)) ((once_at (λ e. AreOfVisit A t (next_visit a.history t.origin) (e ∷ [])) (refl, tt)).calls told)

    once_counts : NoCountFell disks a b
    once_counts = record { store = once.store_later; ledger = once.ledger_later }

  -- Whatever a load answers.
  module _ {B : Type 0} (a b : Kept D) where
    pub load_ended : (r : Result (Loaded B) LoadFault) → IfOk r (EndsOwn id Ws A t a b) → IfOk r (λ loaded. EndsVisit t a b loaded.visit (statuses_of loaded.end))
    load_ended (Ok loaded) h = ended a b loaded h
    load_ended (Err fault) h = tt

    pub load_added : (r : Result (Loaded B) LoadFault) → IfOk r (EndsOwn id Ws A t a b) → IfErr r (StopsLoad id Ws A t a b) → AddsVisit A t a.history b.history
    load_added (Ok loaded) h s = visit_added a h.mid b loaded.visit (statuses_of loaded.end) h.opened h.own b refl
    load_added (Err fault) h (inl s) = once_added a b fault s
    load_added (Err fault) h (inr s) = later_added a b fault s

    pub load_calls : (r : Result (Loaded B) LoadFault) → IfOk r (EndsOwn id Ws A t a b) → IfErr r (StopsLoad id Ws A t a b) → disks.tells → MakesVisitCalls id disks A t a b
    load_calls (Ok loaded) h s told = ended_calls a b loaded h told
    load_calls (Err fault) h (inl s) told = once_calls a b fault s told
    load_calls (Err fault) h (inr s) told = later_calls a b fault s told

    pub load_held : (r : Result (Loaded B) LoadFault) → IfOk r (EndsOwn id Ws A t a b) → IfErr r (StopsLoad id Ws A t a b) → (n : ℕ) → a.wounded ≡ Some n → IsHeldBack a b r
    load_held (Ok loaded) h s n some = none-some n (sym h.opened.adds.before_it ∙ some)
    load_held (Err fault) h (inl s) n some = (s.no_visit, now_held (IsWished (wished.Open t.origin t.kind t.date)) a b n fault.why some s.now)
    load_held (Err fault) h (inr s) n some = absurd (none-some n (sym s.opened.adds.before_it ∙ some))

    pub load_stops : (r : Result (Loaded B) LoadFault) → IfErr r (StopsLoad id Ws A t a b) → IfErr r (Stops id disks A t a b)
    load_stops (Ok loaded) s = tt
    load_stops (Err fault) (inl s) = inl (once_stops a b fault s)
    load_stops (Err fault) (inr s) = inr (later_stops a b fault s)

    pub load_counts : (r : Result (Loaded B) LoadFault) → IfOk r (EndsOwn id Ws A t a b) → IfErr r (StopsLoad id Ws A t a b) → NoCountFell disks a b
    load_counts (Ok loaded) h s = let l = all_added a h.mid b loaded.visit (statuses_of loaded.end) h.opened h.own in record { store = l.store_later; ledger = l.ledger_later }
    load_counts (Err fault) h (inl s) = once_counts a b fault s
    load_counts (Err fault) h (inr s) = later_counts a b fault s
