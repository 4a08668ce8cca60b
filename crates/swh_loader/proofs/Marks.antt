-- The statuses of a load's visit are those that its own events give, and how many openings and marks these are.
use Rattle.std.proofs.Common.{◌≡◌, ℕ, ◌+◌, ◌-◌, ◌≤◌, true, Option, Some, None, List, [], ◌∷◌, ◌++◌, length, refl, sym, ap, ◌∙◌, subst, arith, append_assoc, length-append}
use Rattle.std.specs.List.{AllByRecursion, slice_get}
use Rattle.std.proofs.lemmas.List.{append-nil, append_cancel_left}
use Rattle.std.proofs.lemmas.Option.{slice_get_past}
use Rattle.swh_base.specs.declared.kind.Kind.{Kind}
use Rattle.swh_base.specs.declared.entry.Entry.{Entry}
use Rattle.swh_base.specs.declared.visit.Status.{Status}
use Rattle.swh_base.specs.declared.visit.Status.TheVariants.{Created}
use Rattle.swh_model.specs.declared.event.Event.{Event}
use Rattle.swh_model.specs.declared.event.EventKind.{EventKind}
use Rattle.swh_model.specs.declared.event.EventKind.TheVariants.{Batch, Mark}
use Rattle.swh_model.specs.declared.event.Visit.{Visit}
use Rattle.swh_model.specs.Archive.{Archive, empty_archive, visits_of}
use Rattle.swh_model.specs.Step.{first_of, opened, marked, marked_at, with_status, IsHistory, after, after_kind, after_all, replay, visit_at}
use Rattle.swh_base.specs.Visit.{Statuses}
use Rattle.swh_model.proofs.Histories.{fronts}
use Rattle.swh_model.proofs.Maps.{visits-put}
use Rattle.swh_ingest.specs.Loading.{IsOwn}
use Rattle.swh_ingest.specs.Owning.{Attempt, open_event, marks_in, marks_of}
use Rattle.swh_ingest.specs.Visiting.{IsVisit, next_visit, visit_with}
use Rattle.swh_ingest.proofs.Marks.{get-last, get-marked_self, one_less}
use Rattle.swh_keeperload.specs.Loading.{AddsVisit, AreOfVisit, IsOwnEvent}
use Rattle.swh_loader.specs.Ending.{statuses_of}
use Rattle.swh_loader.specs.declared.end.End.{End}
use Rattle.swh_loader.specs.declared.end.End.TheVariants as ending

-- openings and marks
abbrev pub other_kind : EventKind → ℕ
other_kind (Batch entries) = 0
other_kind what = 1

-- how many of the events are no batches
abbrev pub others : List Event → ℕ
others [] = 0
others (e ∷ es) = other_kind e.what + others es

-- A visit has one status more for each mark.
module _ (IsBatch : List Entry → Type 0) (t : Attempt) (number : ℕ) where
  abbrev VisitAt : Archive → Option Visit
  VisitAt a = visit_at (visits_of a.origins t.origin) number

  -- The visit is there, with these statuses.
  pub record HasStatuses (a : Archive) (statuses : Statuses) : Type 0 where
    pub visit : Visit
    pub there : VisitAt a ≡ Some visit
    pub are : visit.statuses ≡ statuses

  marked_there : (a : Archive) (origin : List ℕ) (visit : ℕ) (statuses : Statuses) (status : Status) (snapshot : Option (List ℕ)) → origin ≡ t.origin → visit ≡ number → HasStatuses a statuses
      → HasStatuses (record a { origins = marked a.origins origin visit status snapshot }) (statuses ++ (status, snapshot) ∷ [])
  marked_there a origin visit statuses status snapshot same_origin same_number has =
      let v = has.visit in
      let vs = visits_of a.origins t.origin in
      let put : visits_of (marked a.origins t.origin number status snapshot) t.origin ≡ marked_at vs (number - 1) status snapshot =
      visits-put a.origins t.origin (marked_at vs (number - 1) status snapshot) in
      let mine : HasStatuses (record a { origins = marked a.origins t.origin number status snapshot }) (statuses ++ (status, snapshot) ∷ []) = record {
        visit = with_status v status snapshot;
        there = ap (λ (ws : List Visit). visit_at ws number) put ∙ get-marked_self vs (number - 1) v status snapshot has.there;
        are = ap (λ (s : Statuses). s ++ (status, snapshot) ∷ []) has.are;
      } in
      subst (λ (o : List ℕ). HasStatuses (record a { origins = marked a.origins o visit status snapshot }) (statuses ++ (status, snapshot) ∷ [])) (sym same_origin)
      (subst (λ (k : ℕ). HasStatuses (record a { origins = marked a.origins t.origin k status snapshot }) (statuses ++ (status, snapshot) ∷ [])) (sym same_number) mine)

  own_kind : (a : Archive) (by : ℕ) (statuses : Statuses) (what : EventKind) → IsOwn true IsBatch t number what → HasStatuses a statuses → HasStatuses (after_kind a by what) (statuses ++ marks_in what)
  own_kind a by statuses (Batch entries) own has = record { visit = has.visit; there = has.there; are = has.are ∙ sym (append-nil statuses) }
  own_kind a by statuses (Mark origin visit status snapshot) own has = marked_there a origin visit statuses status snapshot own.0 own.1 has
  own_kind a by statuses what own has = absurd own

  own_all : (a : Archive) (statuses : Statuses) (es : List Event) → AllByRecursion (IsOwnEvent IsBatch t number) es → HasStatuses a statuses → HasStatuses (after_all a es) (statuses ++ marks_of es)
  own_all a statuses [] own has = record { visit = has.visit; there = has.there; are = has.are ∙ sym (append-nil statuses) }
  own_all a statuses (e ∷ es) own has =
      let rest = own_all (after a e) (statuses ++ marks_in e.what) es own.1 (own_kind a e.by statuses e.what own.0.added has) in
      record { visit = rest.visit; there = rest.there; are = rest.are ∙ append_assoc statuses (marks_in e.what) (marks_of es) }

  one_each : (what : EventKind) → IsOwn true IsBatch t number what → other_kind what ≡ length (marks_in what)
  one_each (Batch entries) own = refl
  one_each (Mark origin visit status snapshot) own = refl
  one_each what own = absurd own

  -- as many as are no batches
  pub others_marks : (es : List Event) → AllByRecursion (IsOwnEvent IsBatch t number) es → others es ≡ length (marks_of es)
  others_marks [] own = refl
  others_marks (e ∷ es) own =
      let here = one_each e.what own.0.added in
      let rest = others_marks es own.1 in
      let both = length-append (marks_in e.what) (marks_of es) in
      omega (arith, here, rest, both)

-- which begins with one, at its opening
opened_there : (IsBatch : List Entry → Type 0) (t : Attempt) (h : List Event) → HasStatuses IsBatch t (next_visit h t.origin) (after (replay h) (open_event t)) ((Created, None) ∷ [])
opened_there IsBatch t h =
    let vs = visits_of (replay h).origins t.origin in
    let first = first_of (length vs + 1) t.date t.kind t.by in
    let put : visits_of (opened (replay h).origins t.origin t.by t.kind t.date) t.origin ≡ vs ++ first ∷ [] = visits-put (replay h).origins t.origin (vs ++ first ∷ []) in
    let at : visit_at (vs ++ first ∷ []) (length vs + 1) ≡ Some first = ap (slice_get (vs ++ first ∷ [])) (one_less (length vs)) ∙ get-last vs first in
    record { visit = first; there = ap (λ (ws : List Visit). visit_at ws (length vs + 1)) put ∙ at; are = refl }

-- the next visit of an origin is not there yet
not_there : (h : List Event) (t : Attempt) (statuses : Statuses) → IsVisit h t (next_visit h t.origin) statuses → ⊥
not_there h t statuses is =
    let vs = visits_of (replay h).origins t.origin in
    let none : slice_get vs (length vs) ≡ None = slice_get_past vs (length vs) (omega arith) in
    let some : slice_get vs (length vs) ≡ Some (visit_with t (next_visit h t.origin) statuses) = ap (slice_get vs) (sym (one_less (length vs))) ∙ is.there in
    let f : None ≡ Some (visit_with t (next_visit h t.origin) statuses) = sym none ∙ some in
    cc

-- A load that added nothing made no opening and no mark.
pub others_none : (IsBatch : List Entry → Type 0) (t : Attempt) (h h' : List Event) → (adds : AddsVisit IsBatch t h h') → h' ≡ h → others adds.more ≡ 0
others_none IsBatch t h h' adds same = ap others (append_cancel_left h adds.more [] (sym adds.behind ∙ same ∙ sym (append-nil h)))

-- What the statuses of the visit are after a load's own events.
pub record HasMarks (t : Attempt) (own : List Event) (statuses : Statuses) : Type 0 where
  pub rest : List Event
  pub opened : own ≡ open_event t ∷ rest
  pub are : statuses ≡ (Created, None) ∷ marks_of own
  pub counted : others own ≡ length statuses

-- A load adds as many openings and marks as its visit has statuses.
module _ (id_of : Kind → List ℕ → List ℕ) (IsBatch : List Entry → Type 0) (t : Attempt) (h : List Event) (statuses : Statuses) where
  abbrev number : ℕ
  number = next_visit h t.origin

  marks_said : (own : List Event) → IsHistory id_of (h ++ own) → AreOfVisit IsBatch t number own → IsVisit (h ++ own) t number statuses → HasMarks t own statuses
  marks_said [] history are is = absurd (not_there h t statuses (subst (λ (g : List Event). IsVisit g t number statuses) (append-nil h) is))
  marks_said (e ∷ es) history are is =
      let parts = fronts id_of empty_archive h (e ∷ es) history in
      let begun : HasStatuses IsBatch t number (after (replay h) e) ((Created, None) ∷ []) = subst (λ (x : Event). HasStatuses IsBatch t number (after (replay h) x) ((Created, None) ∷ [])) (sym are.0) (opened_there IsBatch t h) in
      let ends = own_all IsBatch t number (after (replay h) e) ((Created, None) ∷ []) es are.1 begun in
      let there : visit_at (visits_of (after_all (after (replay h) e) es).origins t.origin) number ≡ Some (visit_with t number statuses) =
      ap (λ (a : Archive). visit_at (visits_of a.origins t.origin) number) (sym parts.2) ∙ is.there in
      let same : ends.visit ≡ visit_with t number statuses = let both : Some ends.visit ≡ Some (visit_with t number statuses) = sym ends.there ∙ there in cc in
      let all : statuses ≡ (Created, None) ∷ marks_of es = ap (λ (v : Visit). v.statuses) (sym same) ∙ ends.are in
      let none : marks_of (e ∷ es) ≡ marks_of es = ap (λ (x : Event). marks_in x.what ++ marks_of es) are.0 in
      let one : other_kind e.what ≡ 1 = ap (λ (x : Event). other_kind x.what) are.0 in
      let each = others_marks IsBatch t number es are.1 in
      let long = ap length all in
      record { rest = es; opened = ap (λ (x : Event). x ∷ es) are.0; are = all ∙ ap (λ (s : Statuses). (Created, None) ∷ s) (sym none); counted = omega (arith, one, each, long) }

  pub own_marks : (h' own : List Event) → h' ≡ h ++ own → IsHistory id_of h' → AreOfVisit IsBatch t number own → IsVisit h' t number statuses → HasMarks t own statuses
  own_marks h' own behind history are is = marks_said own (subst (IsHistory id_of) behind history) are (subst (λ (g : List Event). IsVisit g t number statuses) behind is)

  pub others_most : (h' : List Event) → IsHistory id_of h' → (adds : AddsVisit IsBatch t h h') → IsVisit h' t number statuses → others adds.more ≤ length statuses
  others_most h' history adds is = let counted = (own_marks h' adds.more adds.behind history adds.are is).counted in omega (arith, counted)

-- an ended visit has three statuses at most
pub ended_most : (end : End) → length ((Created, None) ∷ statuses_of end) ≤ 3
ended_most (ending.Full snapshot) = omega arith
ended_most ending.NotFound = omega arith
ended_most (ending.Failed bad) = omega arith
