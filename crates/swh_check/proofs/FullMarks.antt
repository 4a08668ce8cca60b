-- Which snapshots are full, event by event, and that they are closed.
use Rattle.std.proofs.Common.{◌≡◌, ◌⊎◌, inl, inr, ℕ, zero, suc, ◌+◌, ◌-◌, ◌<◌, Option, Some, List, [], ◌∷◌, ◌++◌, length, take, get_or, unwrap_or, refl, sym, ap, subst, arith}
use Rattle.std.specs.Prelude.{◌↔◌, Contains}
use Rattle.std.specs.FinMap.{insert, empty, get-empty}
use Rattle.std.specs.declared.cmp.Ordering.{Ordering}
use Rattle.std.specs.Ordering.{nat_cmp}
use Rattle.std.specs.Cmp.Lexicographic.{slice_cmp}
use Rattle.std.proofs.lemmas.List.Elements.{Contains-append_left, Contains-push, Contains-push_cases}
use Rattle.std.proofs.lemmas.Option.{slice_get_within}
use Rattle.swh_base.specs.declared.kind.Kind.{Kind}
use Rattle.swh_base.specs.declared.visit.Status.{Status}
use Rattle.swh_base.specs.declared.visit.Status.TheVariants.{Created, Full}
use Rattle.swh_base.specs.Snapshot.{snapshot_name}
use Rattle.swh_model.specs.declared.event.Visit.{Visit}
use Rattle.swh_model.specs.declared.event.Event.{Event}
use Rattle.swh_model.specs.declared.event.EventKind.{EventKind}
use Rattle.swh_model.specs.declared.event.EventKind.TheVariants.{Open, Mark}
use Rattle.swh_model.specs.Archive.{Archive, Origins, visits_of, IsClosed}
use Rattle.swh_model.specs.Step.{FitsStatus, May_kind, MayAll, first_of, marked_at, after, after_kind, after_all}
use Rattle.swh_model.proofs.Growing.{bodies_grow}
use Rattle.swh_model.proofs.Maps.{visits-put, visits_cases}
use Rattle.swh_model.proofs.PlainLists.{take-more}
use Rattle.swh_model.proofs.Walks.{closed-within}
use Rattle.swh_check.specs.Counts.{HasFull, IsFullSnapshot, IsFullMark, IsFullIn}

abbrev R : List ℕ → List ℕ → Ordering
R = slice_cmp nat_cmp

abbrev IsFullStatus : List (Status × Option (List ℕ)) → List ℕ → Type 0
IsFullStatus statuses id = Contains statuses (Full, Some id)

-- one of the visits is full with the snapshot
abbrev Fulls : List Visit → List ℕ → Type 0
Fulls [] id = ⊥
Fulls (v ∷ vs) id = IsFullStatus v.statuses id ⊎ Fulls vs id

fulls-there : (vs : List Visit) (id : List ℕ) → Fulls vs id → HasFull vs id
fulls-there [] id h = absurd h
fulls-there (v ∷ vs) id (inl full) = record { visit = v; there = (0, omega arith, refl); full = full }
fulls-there (v ∷ vs) id (inr more) =
    let h = fulls-there vs id more in
    record { visit = h.visit; there = (suc h.there.0, (let l = h.there.1 in omega (arith, l)), h.there.2); full = h.full }

fulls-at : (vs : List Visit) (id : List ℕ) (k : ℕ) (v : Visit) → k < length vs → get_or vs k v ≡ v → IsFullStatus v.statuses id → Fulls vs id
fulls-at [] id k v less is full = absurd (omega (arith, less))
fulls-at (x ∷ vs) id zero v less is full = inl (subst (λ (y : Visit). IsFullStatus y.statuses id) (sym is) full)
fulls-at (x ∷ vs) id (suc k) v less is full = inr (fulls-at vs id k v (omega (arith, less)) is full)

fulls-of : (vs : List Visit) (id : List ℕ) → HasFull vs id → Fulls vs id
fulls-of vs id h = fulls-at vs id h.there.0 h.visit h.there.1 h.there.2 h.full

-- ---- a visit that was opened

just_opened : (number date by : ℕ) (kind : _) (id : List ℕ) → IsFullStatus (first_of number date kind by).statuses id → ⊥
just_opened number date by kind id (zero, less, is) = let e : Created ≡ Full = ap (λ (p : Status × Option (List ℕ)). p.0) is in cc
just_opened number date by kind id (suc k, less, is) = omega (arith, less)

fulls-opened : (vs : List Visit) (w : Visit) (id : List ℕ) → (IsFullStatus w.statuses id → ⊥) → Fulls (vs ++ w ∷ []) id → Fulls vs id
fulls-opened [] w id none (inl full) = none full
fulls-opened [] w id none (inr more) = more
fulls-opened (v ∷ vs) w id none (inl full) = inl full
fulls-opened (v ∷ vs) w id none (inr more) = inr (fulls-opened vs w id none more)

fulls-stay_opened : (vs : List Visit) (w : Visit) (id : List ℕ) → Fulls vs id → Fulls (vs ++ w ∷ []) id
fulls-stay_opened [] w id h = absurd h
fulls-stay_opened (v ∷ vs) w id (inl full) = inl full
fulls-stay_opened (v ∷ vs) w id (inr more) = inr (fulls-stay_opened vs w id more)

-- ---- a visit that was marked

fulls-marked : (vs : List Visit) (k : ℕ) (s : Status) (snapshot : Option (List ℕ)) (id : List ℕ) → Fulls (marked_at vs k s snapshot) id → Fulls vs id ⊎ ((s ≡ Full) × (snapshot ≡ Some id))
fulls-marked [] k s snapshot id h = absurd h
fulls-marked (v ∷ vs) zero s snapshot id (inl full) =
    elim (Contains-push_cases v.statuses (s, snapshot) (Full, Some id) full) [
      | inl old ↦ inl (inl old)
      | inr e ↦ inr (ap (λ (p : Status × Option (List ℕ)). p.0) e, ap (λ (p : Status × Option (List ℕ)). p.1) e)
    ]
fulls-marked (v ∷ vs) zero s snapshot id (inr more) = inl (inr more)
fulls-marked (v ∷ vs) (suc k) s snapshot id (inl full) = inl (inl full)
fulls-marked (v ∷ vs) (suc k) s snapshot id (inr more) = elim (fulls-marked vs k s snapshot id more) [ inl old ↦ inl (inr old) | inr new ↦ inr new ]

fulls-stay : (vs : List Visit) (k : ℕ) (s : Status) (snapshot : Option (List ℕ)) (id : List ℕ) → Fulls vs id → Fulls (marked_at vs k s snapshot) id
fulls-stay [] k s snapshot id h = absurd h
fulls-stay (v ∷ vs) zero s snapshot id (inl full) = inl (Contains-append_left v.statuses ((s, snapshot) ∷ []) (Full, Some id) full)
fulls-stay (v ∷ vs) zero s snapshot id (inr more) = inr more
fulls-stay (v ∷ vs) (suc k) s snapshot id (inl full) = inl full
fulls-stay (v ∷ vs) (suc k) s snapshot id (inr more) = inr (fulls-stay vs k s snapshot id more)

fulls-now : (vs : List Visit) (k : ℕ) (s : Status) (snapshot : Option (List ℕ)) (id : List ℕ) → k < length vs → s ≡ Full → snapshot ≡ Some id → Fulls (marked_at vs k s snapshot) id
fulls-now [] k s snapshot id less full with_it = absurd (omega (arith, less))
fulls-now (v ∷ vs) zero s snapshot id less full with_it =
    let e : (s, snapshot) ≡ (Full, Some id) = λ i. (full i, with_it i) in
    inl (subst (λ (p : Status × Option (List ℕ)). Contains (v.statuses ++ (s, snapshot) ∷ []) p) e (Contains-push v.statuses (s, snapshot)))
fulls-now (v ∷ vs) (suc k) s snapshot id less full with_it = inr (fulls-now vs k s snapshot id (omega (arith, less)) full with_it)

-- ---- all origins

abbrev AnyFull : Origins → List ℕ → Type 0
AnyFull origins id = (origin : List ℕ) × Fulls (visits_of origins origin) id

any-put : (origins : Origins) (url : List ℕ) (vs : List Visit) (id : List ℕ) → AnyFull (insert origins url vs) id → AnyFull origins id ⊎ Fulls vs id
any-put origins url vs id (origin, h) =
    visits_cases origins url vs origin (λ (ws : List Visit). Fulls ws id → AnyFull origins id ⊎ Fulls vs id) (λ _ here. inr here) (λ there. inl (origin, there)) h

any-stay : (origins : Origins) (url : List ℕ) (vs : List Visit) (id : List ℕ) → (Fulls (visits_of origins url) id → Fulls vs id) → AnyFull origins id → AnyFull (insert origins url vs) id
any-stay origins url vs id keep (origin, h) =
    (origin, visits_cases origins url vs origin (λ (ws : List Visit). Fulls ws id) (λ same. keep (subst (λ (u : List ℕ). Fulls (visits_of origins u) id) same h)) h)

any-there : (origins : Origins) (url : List ℕ) (vs : List Visit) (id : List ℕ) → Fulls vs id → AnyFull (insert origins url vs) id
any-there origins url vs id h = (url, subst (λ (ws : List Visit). Fulls ws id) (sym (visits-put origins url vs)) h)

module _ (id_of : Kind → List ℕ → List ℕ) (id : List ℕ) where
  full-kind : (a : Archive) (by : ℕ) (what : EventKind) → May_kind id_of a by what → AnyFull (after_kind a by what).origins id → AnyFull a.origins id ⊎ IsFullMark what id
  full-kind a by (Open origin kind date) may h =
      let vs = visits_of a.origins origin in
      elim (any-put a.origins origin (vs ++ first_of (length vs + 1) date kind by ∷ []) id h) [
        | inl old ↦ inl old
        | inr here ↦ inl (origin, fulls-opened vs (first_of (length vs + 1) date kind by) id (just_opened (length vs + 1) date by kind id) here)
      ]
  full-kind a by (Mark origin visit status snapshot) may h =
      let vs = visits_of a.origins origin in
      elim (any-put a.origins origin (marked_at vs (visit - 1) status snapshot) id h) [
        | inl old ↦ inl old
        | inr here ↦ elim (fulls-marked vs (visit - 1) status snapshot id here) [ inl old ↦ inl (origin, old) | inr new ↦ inr new ]
      ]
  full-kind a by what may h = inl h

  stay-kind : (a : Archive) (by : ℕ) (what : EventKind) → AnyFull a.origins id → AnyFull (after_kind a by what).origins id
  stay-kind a by (Open origin kind date) h =
      let vs = visits_of a.origins origin in
      any-stay a.origins origin (vs ++ first_of (length vs + 1) date kind by ∷ []) id (fulls-stay_opened vs (first_of (length vs + 1) date kind by) id) h
  stay-kind a by (Mark origin visit status snapshot) h =
      let vs = visits_of a.origins origin in
      any-stay a.origins origin (marked_at vs (visit - 1) status snapshot) id (fulls-stay vs (visit - 1) status snapshot id) h
  stay-kind a by what h = h

  now-kind : (a : Archive) (by : ℕ) (what : EventKind) → May_kind id_of a by what → IsFullMark what id → AnyFull (after_kind a by what).origins id
  now-kind a by (Mark origin visit status snapshot) may h =
      let vs = visits_of a.origins origin in
      let less = slice_get_within vs (visit - 1) may.visit may.there in
      any-there a.origins origin (marked_at vs (visit - 1) status snapshot) id (fulls-now vs (visit - 1) status snapshot id less h.0 h.1)
  now-kind a by what may h = absurd h

  full-all : (a : Archive) (h : List Event) → MayAll id_of a h → AnyFull (after_all a h).origins id → AnyFull a.origins id ⊎ IsFullIn h id
  full-all a [] may f = inl f
  full-all a (e ∷ h) may f =
      elim (full-all (after a e) h may.1 f) [
        | inl before_ ↦ elim (full-kind a e.by e.what may.0 before_) [ inl old ↦ inl old | inr now ↦ inr (inl now) ]
        | inr later ↦ inr (inr later)
      ]

  stay-all : (a : Archive) (h : List Event) → AnyFull a.origins id → AnyFull (after_all a h).origins id
  stay-all a [] f = f
  stay-all a (e ∷ h) f = stay-all (after a e) h (stay-kind a e.by e.what f)

  all-full : (a : Archive) (h : List Event) → MayAll id_of a h → IsFullIn h id → AnyFull (after_all a h).origins id
  all-full a [] may f = absurd f
  all-full a (e ∷ h) may (inl now) = stay-all (after a e) h (now-kind a e.by e.what may.0 now)
  all-full a (e ∷ h) may (inr later) = all-full (after a e) h may.1 later

  -- the snapshots that a history makes full are those of full visits
  pub full-in : (a : Archive) (h : List Event) → MayAll id_of a h → (AnyFull a.origins id → ⊥) → IsFullSnapshot (after_all a h).origins id ↔ IsFullIn h id
  full-in a h may none = (
    λ full. elim (full-all a h may (full.origin, fulls-of (visits_of (after_all a h).origins full.origin) id full.full)) [ inl old ↦ absurd (none old) | inr in_ ↦ in_ ],
    λ in_. let f = all-full a h may in_ in record { origin = f.0; full = fulls-there (visits_of (after_all a h).origins f.0) id f.1 },
  )

  -- ---- a full snapshot is closed for good

  closed-kind : (a : Archive) (by : ℕ) (what : EventKind) → May_kind id_of a by what → IsFullMark what id → IsClosed a.bodies (snapshot_name id)
  closed-kind a by (Mark origin visit status snapshot) may h =
      subst (λ (o : Option (List ℕ)). FitsStatus a.bodies Full o) h.1 (subst (λ (s : Status). FitsStatus a.bodies s snapshot) h.0 may.fits)
  closed-kind a by what may h = absurd h

  pub closed-full : (a : Archive) (h : List Event) (k : ℕ) (e : Event) → MayAll id_of a h → k < length h → e ≡ get_or h k e → IsFullMark e.what id → IsClosed (after_all a h).bodies (snapshot_name id)
  closed-full a [] k e may less is full = absurd (omega (arith, less))
  closed-full a (f ∷ h) zero e may less is full =
      closed-within a.bodies (after_all a (f ∷ h)).bodies (snapshot_name id) (bodies_grow id_of a (f ∷ h) may)
      (closed-kind a f.by f.what may.0 (subst (λ (g : Event). IsFullMark g.what id) is full))
  closed-full a (f ∷ h) (suc k) e may less is full = closed-full (after a f) h k e may.1 (omega (arith, less)) is full

pub none-full : (id : List ℕ) → AnyFull empty id → ⊥
none-full id (origin, h) =
    subst (λ (vs : List Visit). Fulls vs id) (ap (λ (o : Option (List Visit)). unwrap_or o []) (get-empty R origin)) h

full-push : (h : List Event) (e : Event) (id : List ℕ) → IsFullIn (h ++ e ∷ []) id ↔ (IsFullIn h id ⊎ IsFullMark e.what id)
full-push [] e id = (λ f. elim f [ inl now ↦ inr now | inr none ↦ inl none ], λ f. elim f [ inl none ↦ inr none | inr now ↦ inl now ])
full-push (x ∷ h) e id =
    let more = full-push h e id in (
      λ f. elim f [ inl here ↦ inl (inl here) | inr later ↦ elim (more.0 later) [ inl old ↦ inl (inr old) | inr now ↦ inr now ] ],
      λ f. elim f [ inl old ↦ elim old [ inl here ↦ inl here | inr later ↦ inr (more.1 (inl later)) ] | inr now ↦ inr (more.1 (inr now)) ],
    )

pub full-next : (h : List Event) (k : ℕ) (e : Event) (id : List ℕ) → k < length h → e ≡ get_or h k e → IsFullIn (take (k + 1) h) id ↔ (IsFullIn (take k h) id ⊎ IsFullMark e.what id)
full-next h k e id less is = subst (λ (g : List Event). IsFullIn g id ↔ (IsFullIn (take k h) id ⊎ IsFullMark e.what id)) (sym (take-more h k e less is)) (full-push (take k h) e id)
