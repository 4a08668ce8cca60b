-- A visit opened and marked.
use Rattle.std.proofs.Common.{◌≡◌, ◌⊎◌, inl, inr, ℕ, zero, suc, ◌+◌, ◌-◌, ◌<◌, Bool, Option, Some, None, List, [], ◌∷◌, ◌++◌, length, refl, sym, ap, ◌∙◌, subst, arith}
use Rattle.std.specs.List.{slice_get}
use Rattle.swh_base.specs.declared.kind.Kind.{Kind}
use Rattle.swh_base.specs.declared.name.Name.{Name}
use Rattle.swh_base.specs.declared.visit.Status.{Status}
use Rattle.swh_base.specs.declared.visit.Status.TheVariants.{Created, Ongoing, Full, Partial, NotFound, Failed}
use Rattle.swh_base.specs.declared.visit.VisitKind.{VisitKind}
use Rattle.swh_base.specs.Snapshot.{snapshot_name}
use Rattle.swh_base.specs.Visit.{Statuses}
use Rattle.swh_model.specs.declared.event.Event.{Event}
use Rattle.swh_model.specs.declared.event.EventKind.{EventKind}
use Rattle.swh_model.specs.declared.event.EventKind.TheVariants as happened
use Rattle.swh_model.specs.declared.event.Visit.{Visit}
use Rattle.swh_model.specs.declared.event.Wish.TheVariants as wished
use Rattle.swh_model.specs.declared.event.No.{No as Cause}
use Rattle.swh_model.specs.declared.event.No.TheVariants as cause
use Rattle.swh_model.specs.declared.event.Outcome.{Outcome}
use Rattle.swh_model.specs.declared.event.Outcome.TheVariants.{Opened}
use Rattle.swh_model.specs.Archive.{Archive, Bodies, body_of, visits_of, IsHeld, IsClosed}
use Rattle.swh_model.specs.Step.{FitsStatus, visit_at, with_status, marked_at, first_of, replay}
use Rattle.swh_model.specs.Judge.{MarkCause}
use Rattle.swh_model.specs.Grows.{IsWithin, IsLaterVisit}
use Rattle.swh_model.proofs.Maps.{visits-put}
use Rattle.swh_model.proofs.Walks.{closed-within, reaches-next}
use Rattle.swh_model.proofs.Refusals.{none_past}
use Rattle.swh_ingest.specs.Knowing.{Protocol, CarriesOut, RefusesPlan, held_in}
use Rattle.swh_ingest.specs.declared.refusal.Refusal.{Refusal}
use Rattle.swh_ingest.specs.declared.refusal.Refusal.TheVariants as refusal
use Rattle.swh_ingest.proofs.Growing.{IsBehind, replay-append, follows_behind, behind_within, behind_visit}
use Rattle.swh_ingest.specs.declared.stop.Stop.{Stop}
use Rattle.swh_ingest.specs.Owning.{Attempt, attempt, open_event, mark_of, marks_in, IsKind, IsWished}
use Rattle.swh_ingest.specs.Stopping.{MayStop, IsWhyOf}
use Rattle.swh_ingest.specs.Visiting.{next_visit, visit_with, IsVisit, IsMine, HasLast}
use Rattle.swh_ingest.specs.Walking.{Adds, Opens, StopsNow}

pub get-last : (vs : List Visit) (v : Visit) → slice_get (vs ++ v ∷ []) (length vs) ≡ Some v
get-last [] v = refl
get-last (x ∷ vs) v = get-last vs v

pub get-marked_self : (vs : List Visit) (k : ℕ) (v : Visit) (s : Status) (snapshot : Option (List ℕ)) → slice_get vs k ≡ Some v → slice_get (marked_at vs k s snapshot) k ≡ Some (with_status v s snapshot)
get-marked_self [] k v s snapshot e = absurd (let f : None ≡ Some v = e in cc)
get-marked_self (x ∷ vs) zero v s snapshot e = let same : x ≡ v = cc in ap (λ (y : Visit). Some (with_status y s snapshot)) same
get-marked_self (x ∷ vs) (suc k) v s snapshot e = get-marked_self vs k v s snapshot e

pub one_less : (n : ℕ) → n + 1 - 1 ≡ n
one_less n = omega arith

-- a visit that was opened
opened_there : (h : List Event) (t : Attempt) → IsVisit (h ++ open_event t ∷ []) t (next_visit h t.origin) ((Created, None) ∷ [])
opened_there h t =
    let visits = visits_of (replay h).origins t.origin in
    let first = first_of (length visits + 1) t.date t.kind t.by in
    let all : visits_of (replay (h ++ open_event t ∷ [])).origins t.origin ≡ visits ++ first ∷ [] = ap (λ (x : Archive). visits_of x.origins t.origin) (replay-append h (open_event t ∷ [])) ∙ visits-put (replay h).origins t.origin (visits ++ first ∷ []) in
    let at : visit_at (visits ++ first ∷ []) (length visits + 1) ≡ Some first = ap (slice_get (visits ++ first ∷ [])) (one_less (length visits)) ∙ get-last visits first in
    record { positive = omega arith; there = ap (λ (vs : List Visit). visit_at vs (length visits + 1)) all ∙ at }

-- a visit that was marked
pub marked_there : (h : List Event) (by : ℕ) (t : Attempt) (number : ℕ) (statuses : Statuses) (status : Status) (snapshot : Option (List ℕ)) → IsVisit h t number statuses
    → IsVisit (h ++ record { by = by; what = mark_of t number status snapshot } ∷ []) t number (statuses ++ (status, snapshot) ∷ [])
marked_there h by t number statuses status snapshot v =
    let visits = visits_of (replay h).origins t.origin in
    let e : Event = record { by = by; what = mark_of t number status snapshot } in
    let all : visits_of (replay (h ++ e ∷ [])).origins t.origin ≡ marked_at visits (number - 1) status snapshot =
    ap (λ (x : Archive). visits_of x.origins t.origin) (replay-append h (e ∷ [])) ∙ visits-put (replay h).origins t.origin (marked_at visits (number - 1) status snapshot) in
    record { positive = v.positive; there = ap (λ (vs : List Visit). visit_at vs number) all ∙ get-marked_self visits (number - 1) (visit_with t number statuses) status snapshot v.there }

-- a visit of these parts
abbrev visit_of : ℕ → ℕ → VisitKind → ℕ → Statuses → Visit
visit_of number date kind by statuses = record { number = number; date = date; kind = kind; by = by; statuses = statuses }

same_opening : (t : Attempt) (number : ℕ) (x : Visit) → x.number ≡ number → x.date ≡ t.date → x.kind ≡ t.kind → x.by ≡ t.by → x ≡ visit_with t number x.statuses
same_opening t number x n d k b =
    ap (λ (m : ℕ). visit_of m x.date x.kind x.by x.statuses) n
    ∙ ap (λ (m : ℕ). visit_of number m x.kind x.by x.statuses) d
    ∙ ap (λ (m : VisitKind). visit_of number t.date m x.by x.statuses) k
    ∙ ap (λ (m : ℕ). visit_of number t.date t.kind m x.statuses) b

-- a visit goes on
pub record GoesOn (h : List Event) (t : Attempt) (number : ℕ) : Type 0 where
  pub statuses : Statuses
  pub visit : IsVisit h t number statuses

later_with : (t : Attempt) (number : ℕ) (statuses : Statuses) (h : List Event) (o : Option Visit) → 0 < number → visit_at (visits_of (replay h).origins t.origin) number ≡ o → IsLaterVisit (visit_with t number statuses) o → GoesOn h t number
later_with t number statuses h None positive is later = absurd later
later_with t number statuses h (Some w) positive is later = record {
  statuses = w.statuses;
  visit = record { positive = positive; there = is ∙ ap (λ (x : Visit). Some x) (same_opening t number w later.number later.date later.kind later.by) };
}

pub goes_on : (id : Kind → List ℕ → List ℕ) (alone : Bool) (g h : List Event) (t : Attempt) (number : ℕ) (statuses : Statuses) → IsBehind id alone g h → IsVisit g t number statuses → GoesOn h t number
goes_on id alone g h t number statuses b v = later_with t number statuses h _ v.positive refl (behind_visit id alone g h t.origin number (visit_with t number statuses) b v.there)

opened_number : (o : Outcome) (m n event visit : ℕ) → o ≡ Opened m n → o ≡ Opened event visit → visit ≡ n
opened_number o m n event visit e f = let both : Opened m n ≡ Opened event visit = sym e ∙ f in cc

-- an opening that was carried out
pub carried_opens : {S : Type 0} (id : Kind → List ℕ → List ℕ) (w : Protocol S) (a b : S) (origin : List ℕ) (kind : VisitKind) (date : ℕ) (outcome : Outcome) (event visit : ℕ) → CarriesOut id w (wished.Open origin kind date) a b outcome → outcome ≡ Opened event visit
    → Opens id w (attempt (w.known a).number origin kind date) a b visit
carried_opens id w a b origin kind date outcome event visit c is =
    let t = attempt (w.known a).number origin kind date in
    let number : visit ≡ next_visit c.base origin = opened_number outcome (length c.base + 1) (next_visit c.base origin) event visit c.verdict.2 is in
    let this : c.event ≡ open_event t = c.verdict.1 in
    let front : (w.known b).front ≡ c.base ++ open_event t ∷ [] = c.front ∙ ap (λ (e : Event). c.base ++ e ∷ []) this in record {
      base = c.base;
      follows = c.follows;
      next = number;
      front = front;
      visit = subst (λ (h : List Event). IsVisit h t visit ((Created, None) ∷ [])) (sym front) (subst (λ (n : ℕ). IsVisit (c.base ++ open_event t ∷ []) t n ((Created, None) ∷ [])) (sym number) (opened_there c.base t));
      adds = subst (λ (e : Event). w.adds (e ∷ []) a b) this c.adds;
    }

against_open : {S : Type 0} (id : Kind → List ℕ → List ℕ) (w : Protocol S) (a b : S) (origin : List ℕ) (kind : VisitKind) (date : ℕ) (c : Cause) → RefusesPlan id w (wished.Open origin kind date) a b (refusal.No c) → MayStop (refusal.No c)
against_open id w a b origin kind date (cause.Limit which number) r = tt
against_open id w a b origin kind date (cause.Ended status) r = tt
against_open id w a b origin kind date (cause.NoVisit have) r = r.against.0.0
against_open id w a b origin kind date (cause.NotYours by) r = r.against.0.0
against_open id w a b origin kind date (cause.NoSnapshot name) r = r.against.0.0
against_open id w a b origin kind date (cause.NotClosed parent child) r = r.against.0.0
against_open id w a b origin kind date (cause.Collision name) r = r.against.0.0

pub open_may : {S : Type 0} (id : Kind → List ℕ → List ℕ) (w : Protocol S) (a b : S) (origin : List ℕ) (kind : VisitKind) (date : ℕ) (r : Refusal) → RefusesPlan id w (wished.Open origin kind date) a b r → MayStop r
open_may id w a b origin kind date (refusal.No c) r = against_open id w a b origin kind date c r
open_may id w a b origin kind date refusal.DiskFault r = tt
open_may id w a b origin kind date refusal.Wounded r = tt
open_may id w a b origin kind date (refusal.Memory stands) r = tt

pub open_stops : {S : Type 0} (id : Kind → List ℕ → List ℕ) (w : Protocol S) (a b : S) (origin : List ℕ) (kind : VisitKind) (date : ℕ) (r : Refusal) (why : Stop) → RefusesPlan id w (wished.Open origin kind date) a b r → IsWhyOf r why → StopsNow id w (IsWished (wished.Open origin kind date)) a b why
open_stops id w a b origin kind date r why refuses is = inr (record { wish = wished.Open origin kind date; tried = refl; ready = tt; refusal = r; is_why = is; refuses = refuses })

number_there : (vs : List Visit) (n : ℕ) (v : Visit) (have : ℕ) → 0 < n → visit_at vs n ≡ Some v → have ≡ length vs → (n ≡ 0) ⊎ (have < n) → ⊥
number_there vs n v have p at l (inl none) = omega (arith, p, none)
number_there vs n v have p at l (inr past) = none_past vs (n - 1) v at (omega (arith, p, l, past))

pub same_visit : (o : Option Visit) (v x : Visit) → o ≡ Some v → o ≡ Some x → v ≡ x
same_visit o v x a b = cc

-- what a status needs is held
fits_held : (bodies : Bodies) (status : Status) (id : List ℕ) → FitsStatus bodies status (Some id) → IsHeld bodies (snapshot_name id)
fits_held bodies Created id h = absurd h
fits_held bodies Ongoing id h = absurd (let f : Some id ≡ None = h in cc)
fits_held bodies Full id h = h (snapshot_name id) ([], refl)
fits_held bodies Partial id h = h
fits_held bodies NotFound id h = absurd (let f : Some id ≡ None = h in cc)
fits_held bodies Failed id h = absurd (let f : Some id ≡ None = h in cc)

held_not_none : (bodies : Bodies) (n : Name) → IsHeld bodies n → body_of bodies n ≡ None → ⊥
held_not_none bodies n held none = let e = held.1 in let f : Some held.0 ≡ None = sym e ∙ none in cc

-- and stays so
fits_within : (a b : Bodies) (status : Status) (snapshot : Option (List ℕ)) → IsWithin a b → FitsStatus a status snapshot → FitsStatus b status snapshot
fits_within a b Created snapshot w h = h
fits_within a b Ongoing snapshot w h = h
fits_within a b Full None w h = h
fits_within a b Full (Some id) w h = closed-within a b (snapshot_name id) w h
fits_within a b Partial None w h = tt
fits_within a b Partial (Some id) w h = (h.0, w (snapshot_name id) h.0 h.1)
fits_within a b NotFound snapshot w h = h
fits_within a b Failed snapshot w h = h

module _ {S : Type 0} (id : Kind → List ℕ → List ℕ) (w : Protocol S) (a b : S) (t : Attempt) (number : ℕ) (status : Status) (snapshot : Option (List ℕ)) (mine : IsMine (w.known a) t number) where
  pub carried_last : (outcome : Outcome) → CarriesOut id w (wished.Mark t.origin number status snapshot) a b outcome → HasLast (w.known b).front t number (status, snapshot)
  carried_last outcome c =
      let on = goes_on id w.alone (w.known a).front c.base t number mine.statuses (follows_behind id w.alone (w.known a).front c.base c.follows) mine.visit in
      let front : (w.known b).front ≡ c.base ++ record { by = (w.known a).number; what = mark_of t number status snapshot } ∷ [] = c.front ∙ ap (λ (e : Event). c.base ++ e ∷ []) c.verdict.1 in
      record { before_it = on.statuses; visit = subst (λ (h : List Event). IsVisit h t number (on.statuses ++ (status, snapshot) ∷ [])) (sym front) (marked_there c.base (w.known a).number t number on.statuses status snapshot on.visit) }

  pub carried_mark : (outcome : Outcome) → CarriesOut id w (wished.Mark t.origin number status snapshot) a b outcome → Adds w (IsKind (mark_of t number status snapshot)) ((status, snapshot) ∷ []) a b
  carried_mark outcome c =
      let what : c.event.what ≡ mark_of t number status snapshot = ap (λ (e : Event). e.what) c.verdict.1 in record {
        own = c.event ∷ [];
        each = (record { by_one = ap (λ (e : Event). e.by) c.verdict.1; added = what }, tt);
        marked = ap (λ (k : EventKind). marks_in k ++ []) what;
        adds = c.adds;
      }

  -- the visit is there at the new front, and is the loader's
  still : (r : Refusal) → RefusesPlan id w (wished.Mark t.origin number status snapshot) a b r → GoesOn (w.known b).front t number
  still r refuses = goes_on id w.alone (w.known a).front (w.known b).front t number mine.statuses (follows_behind id w.alone (w.known a).front (w.known b).front refuses.follows) mine.visit

  abbrev Against : Cause → Type 0
  Against c = MarkCause (w.known b).front (w.known a).number (happened.Mark t.origin number status snapshot) t.origin number status snapshot c

  not_yours : GoesOn (w.known b).front t number → (other : ℕ) → Against (cause.NotYours other) → ⊥
  not_yours on other (v, there, is, apart) =
      apart (sym (ap (λ (x : Visit). x.by) (same_visit _ (visit_with t number on.statuses) v on.visit.there there.1)) ∙ sym mine.by_one)

  against_mark : (fits : FitsStatus (held_in (w.known b)) status snapshot) → GoesOn (w.known b).front t number → (c : Cause) → Against c → MayStop (refusal.No c)
  against_mark fits on (cause.Limit which counted) h = tt
  against_mark fits on (cause.Ended last) h = tt
  against_mark fits on (cause.NoVisit have) h = number_there (visits_of (replay (w.known b).front).origins t.origin) number (visit_with t number on.statuses) have on.visit.positive on.visit.there h.0 h.1
  against_mark fits on (cause.NotYours other) h = not_yours on other h
  against_mark fits on (cause.NoSnapshot name) (id, s, is, none) =
      held_not_none (held_in (w.known b)) (snapshot_name id) (fits_held (held_in (w.known b)) status id (subst (FitsStatus (held_in (w.known b)) status) s fits)) (ap (body_of (held_in (w.known b))) (sym is) ∙ none)
  against_mark fits on (cause.NotClosed parent child) (full, id, s, reach, is_child, missing) =
      let held = held_in (w.known b) in
      let closed : IsClosed held (snapshot_name id) = subst (λ (x : Status). FitsStatus held x (Some id)) full (subst (FitsStatus held status) s fits) in
      held_not_none held child (closed child (reaches-next held reach.0 (snapshot_name id) parent child reach.1 is_child)) missing
  against_mark fits on (cause.Collision name) h = h

  pub mark_may : (r : Refusal) → FitsStatus (held_in (w.known a)) status snapshot → RefusesPlan id w (wished.Mark t.origin number status snapshot) a b r → MayStop r
  mark_may (refusal.No c) fits r =
      against_mark (fits_within (held_in (w.known a)) (held_in (w.known b)) status snapshot (behind_within id w.alone (w.known a).front (w.known b).front (follows_behind id w.alone (w.known a).front (w.known b).front r.follows)) fits) (still (refusal.No c) r) c r.against.0.0
  mark_may refusal.DiskFault fits r = tt
  mark_may refusal.Wounded fits r = tt
  mark_may (refusal.Memory stands) fits r = tt

  pub mark_stops : (r : Refusal) (why : Stop) → FitsStatus (held_in (w.known a)) status snapshot → RefusesPlan id w (wished.Mark t.origin number status snapshot) a b r → IsWhyOf r why → StopsNow id w (IsWished (wished.Mark t.origin number status snapshot)) a b why
  mark_stops r why fits refuses is = inr (record { wish = wished.Mark t.origin number status snapshot; tried = refl; ready = fits; refusal = r; is_why = is; refuses = refuses })
