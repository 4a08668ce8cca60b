-- What may happen, from the answers of the plain calls.
use Rattle.std.proofs.Common.{◌≡◌, ℕ, zero, suc, ◌-◌, ◌<◌, true, false, Option, Some, None, List, [], ◌∷◌, ◌++◌, length, take, get_or, refl, sym, subst, arith}
use Rattle.std.specs.List.{AllByRecursion}
use Rattle.std.proofs.lemmas.Option.{slice_get_within}
use Rattle.swh_base.specs.declared.kind.Kind.{Kind}
use Rattle.swh_base.specs.declared.name.Name.{Name}
use Rattle.swh_base.specs.declared.visit.Status.{Status}
use Rattle.swh_base.specs.declared.visit.Status.TheVariants.{Created, Ongoing, Full, Partial, NotFound, Failed}
use Rattle.swh_base.specs.Snapshot.{snapshot_name}
use Rattle.swh_model.specs.declared.event.Event.{Event}
use Rattle.swh_model.specs.declared.event.EventKind.{EventKind}
use Rattle.swh_model.specs.declared.event.EventKind.TheVariants.{Batch, Mark}
use Rattle.swh_model.specs.declared.event.No.{No}
use Rattle.swh_model.specs.declared.event.No.TheVariants.{Limit, NoVisit, NotYours, Ended, NoSnapshot, NotClosed, Collision}
use Rattle.swh_model.specs.Archive.{Archive, Bodies, body_of, IsHeld, visits_of}
use Rattle.swh_model.specs.Step.{HasItsChildrenAndName, HasItsChildren, FitsStatus, AreNew, May, May_kind, MayAll, after, after_all}
use Rattle.swh_model.specs.Entries.{entries_of}
use Rattle.swh_model.specs.Judge.{StatusAllows}
use Rattle.swh_model.specs.Judged.{IsSnapshotRefusal, SuitsStatus}
use Rattle.swh_model.specs.Happens.{IsGoodEvent, IsGoodKind, IsNamedEvent, IsNamedKind, CanHappen, CanHappenKind, HasItsVisit, HasItsVisitKind}
use Rattle.swh_model.proofs.Entries.{held_not_none}
use Rattle.swh_model.proofs.Visits.{all-map}
use Rattle.swh_model.proofs.Walks.{reaches-next}

-- ---- a snapshot beside a status

pub suits_fit : (bodies : Bodies) (status : Status) (snapshot : Option (List ℕ)) → StatusAllows status snapshot → SuitsStatus bodies status snapshot → FitsStatus bodies status snapshot
suits_fit bodies Created snapshot how suits = absurd how
suits_fit bodies Ongoing snapshot how suits = how
suits_fit bodies Full None how suits = absurd (let f : false ≡ true = how in cc)
suits_fit bodies Full (Some id) how suits = suits.closed id refl refl
suits_fit bodies Partial None how suits = tt
suits_fit bodies Partial (Some id) how suits = suits.held id refl
suits_fit bodies NotFound snapshot how suits = how
suits_fit bodies Failed snapshot how suits = how

some_none : (id : List ℕ) → Some id ≡ None → ⊥
some_none id e = cc

fits_held : (bodies : Bodies) (status : Status) (id : List ℕ) → FitsStatus bodies status (Some id) → IsHeld bodies (snapshot_name id)
fits_held bodies Created id fits = absurd fits
fits_held bodies Ongoing id fits = absurd (some_none id fits)
fits_held bodies Full id fits = fits (snapshot_name id) ([], refl)
fits_held bodies Partial id fits = fits
fits_held bodies NotFound id fits = absurd (some_none id fits)
fits_held bodies Failed id fits = absurd (some_none id fits)

pub refused_unfit : (bodies : Bodies) (status : Status) (snapshot : Option (List ℕ)) (no : No) → IsSnapshotRefusal bodies status snapshot no → FitsStatus bodies status snapshot → ⊥
refused_unfit bodies status snapshot (NoSnapshot name) (id, is, name_is, none) fits =
    held_not_none bodies (snapshot_name id) (subst (λ (n : Name). body_of bodies n ≡ None) name_is none)
    (fits_held bodies status id (subst (λ (o : Option (List ℕ)). FitsStatus bodies status o) is fits))
refused_unfit bodies status snapshot (NotClosed parent child) (full, id, is, held, gap) fits =
    let closed = subst (λ (s : Status). FitsStatus bodies s (Some id)) full (subst (λ (o : Option (List ℕ)). FitsStatus bodies status o) is fits) in
    held_not_none bodies child gap.missing (closed child (reaches-next bodies gap.reached.0 (snapshot_name id) parent child gap.reached.1 gap.is_child))
refused_unfit bodies status snapshot (Limit which number) is fits = is
refused_unfit bodies status snapshot (NoVisit have) is fits = is
refused_unfit bodies status snapshot (NotYours by) is fits = is
refused_unfit bodies status snapshot (Ended last) is fits = is
refused_unfit bodies status snapshot (Collision name) is fits = is

-- ---- an event

can_may_kind : (id_of : Kind → List ℕ → List ℕ) (a : Archive) (by : ℕ) (what : EventKind) → IsNamedKind id_of what → CanHappenKind a by what → May_kind id_of a by what
can_may_kind id_of a by (Batch entries) named can = record { good = named; limits = can.0; new = can.1 }
can_may_kind id_of a by what named can = can

pub can_may : (id_of : Kind → List ℕ → List ℕ) (a : Archive) (e : Event) → IsNamedEvent id_of e → CanHappen a e → May id_of a e
can_may id_of a e = can_may_kind id_of a e.by e.what

may_can_kind : (id_of : Kind → List ℕ → List ℕ) (a : Archive) (by : ℕ) (what : EventKind) → May_kind id_of a by what → CanHappenKind a by what
may_can_kind id_of a by (Batch entries) may = (may.limits, may.new)
may_can_kind id_of a by what may = may

pub may_can : (id_of : Kind → List ℕ → List ℕ) (a : Archive) (e : Event) → May id_of a e → CanHappen a e
may_can id_of a e = may_can_kind id_of a e.by e.what

can_there_kind : (a : Archive) (by : ℕ) (what : EventKind) → CanHappenKind a by what → HasItsVisitKind a what
can_there_kind a by (Mark origin visit status snapshot) can =
    let less = slice_get_within (visits_of a.origins origin) (visit - 1) can.visit can.there in
    let some = can.positive in (some, omega (arith, less, some))
can_there_kind a by what can = tt

pub can_there : (a : Archive) (e : Event) → CanHappen a e → HasItsVisit a e
can_there a e = can_there_kind a e.by e.what

named_kind : (id_of : Kind → List ℕ → List ℕ) (a : Archive) (by : ℕ) (what : EventKind) → May_kind id_of a by what → IsNamedKind id_of what
named_kind id_of a by (Batch entries) may = may.good
named_kind id_of a by what may = tt

good_kind : (id_of : Kind → List ℕ → List ℕ) (what : EventKind) → IsNamedKind id_of what → IsGoodKind what
good_kind id_of what named = all-map (HasItsChildrenAndName id_of) HasItsChildren (λ e h. h.good) (entries_of what) named

new_kind : (id_of : Kind → List ℕ → List ℕ) (a : Archive) (by : ℕ) (what : EventKind) → May_kind id_of a by what → AreNew a.bodies (entries_of what)
new_kind id_of a by (Batch entries) may = may.new
new_kind id_of a by what may = tt

pub may_new : (id_of : Kind → List ℕ → List ℕ) (a : Archive) (e : Event) → May id_of a e → AreNew a.bodies (entries_of e.what)
may_new id_of a e = new_kind id_of a e.by e.what

pub may_good : (id_of : Kind → List ℕ → List ℕ) (a : Archive) (e : Event) → May id_of a e → IsGoodEvent e
may_good id_of a e may = good_kind id_of e.what (named_kind id_of a e.by e.what may)

-- ---- a history

module _ (id_of : Kind → List ℕ → List ℕ) where
  pub history-named : (a : Archive) (h : List Event) → MayAll id_of a h → AllByRecursion (IsNamedEvent id_of) h
  history-named a [] may = tt
  history-named a (e ∷ h) may = (named_kind id_of a e.by e.what may.0, history-named (after a e) h may.1)

  pub named-good : (h : List Event) → AllByRecursion (IsNamedEvent id_of) h → AllByRecursion IsGoodEvent h
  named-good h named = all-map (IsNamedEvent id_of) IsGoodEvent (λ e. good_kind id_of e.what) h named

  pub may-push : (a : Archive) (h : List Event) (e : Event) → MayAll id_of a h → May id_of (after_all a h) e → MayAll id_of a (h ++ e ∷ [])
  may-push a [] e may last = (last, tt)
  may-push a (f ∷ h) e may last = (may.0, may-push (after a f) h e may.1 last)

  pub may-at : (a : Archive) (h : List Event) (k : ℕ) (e : Event) → k < length h → e ≡ get_or h k e → MayAll id_of a h → May id_of (after_all a (take k h)) e
  may-at a [] k e less is may = absurd (omega (arith, less))
  may-at a (f ∷ h) zero e less is may = subst (λ (g : Event). May id_of a g) (sym is) may.0
  may-at a (f ∷ h) (suc k) e less is may = may-at (after a f) h k e (omega (arith, less)) is may.1

pub after-push : (a : Archive) (h : List Event) (e : Event) → after_all a (h ++ e ∷ []) ≡ after (after_all a h) e
after-push a [] e = refl
after-push a (f ∷ h) e = after-push (after a f) h e
