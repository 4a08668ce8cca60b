-- A load, step by step.
use Rattle.std.proofs.Common.{◌≡◌, inl, inr, ℕ, Result, Ok, Err, Option, None, List, [], ◌∷◌, refl, sym, subst, ◌∙◌}
use Rattle.std.specs.Prelude.{IfOk, IfErr, OnOk}
use Rattle.swh_base.specs.declared.kind.Kind.{Kind}
use Rattle.swh_base.specs.declared.entry.Entry.{Entry}
use Rattle.swh_base.specs.declared.visit.Status.{Status}
use Rattle.swh_base.specs.declared.visit.VisitKind.{VisitKind}
use Rattle.swh_base.specs.declared.visit.Status.TheVariants.{Ongoing}
use Rattle.swh_base.specs.Visit.{Statuses}
use Rattle.swh_model.specs.declared.event.EventKind.{EventKind}
use Rattle.swh_model.specs.declared.event.EventKind.TheVariants as happened
use Rattle.swh_model.specs.declared.event.Wish.{Wish}
use Rattle.swh_model.specs.declared.event.Wish.TheVariants as wished
use Rattle.swh_ingest.specs.Knowing.{Protocol, IsLawful}
use Rattle.swh_ingest.specs.declared.end.End.{End}
use Rattle.swh_ingest.specs.declared.stop.Stop.{Stop}
use Rattle.swh_ingest.specs.Owning.{Attempt, attempt, open_event, mark_of, IsKind, IsWished}
use Rattle.swh_ingest.specs.Visiting.{IsMine}
use Rattle.swh_ingest.specs.Walking.{Adds, Opens, StopsNow, StopsAfter}
use Rattle.swh_ingest.specs.Ending.{IsMarkOf, IsMarkAsked}
use Rattle.swh_ingest.specs.Loading.{IsOwn, IsOwnAsked, StopsUnended, last_at, statuses_of}
use Rattle.swh_ingest.proofs.Ends.{of_mark, asked_mark}
use Rattle.swh_ingest.proofs.Steps.{adds_as, adds_then, after_as, after_now, after_then, asking_as}

-- what holds of what is told
pub told_so : {T E : Type 0} (r : Result T E) (x : T) (P : T → Type 0) → IfOk r (λ t. t ≡ x) → OnOk r (P x) → IfOk r P
told_so (Ok t) x P is h = subst P (sym is) h
told_so (Err e) x P is h = tt

pub on_as : {T E : Type 0} (r : Result T E) {A B : Type 0} → (A → B) → OnOk r A → OnOk r B
on_as (Ok t) f h = f h
on_as (Err e) f h = tt

pub ok_as : {T E : Type 0} (r : Result T E) (P Q : T → Type 0) → ((t : T) → P t → Q t) → IfOk r P → IfOk r Q
ok_as (Ok t) P Q f h = f t h
ok_as (Err e) P Q f h = tt

pub err_as : {T E : Type 0} (r : Result T E) (P Q : E → Type 0) → ((e : E) → P e → Q e) → IfErr r P → IfErr r Q
err_as (Ok t) P Q f h = tt
err_as (Err e) P Q f h = f e h

pub both_ok : {T E : Type 0} (r : Result T E) (P Q R : T → Type 0) → ((t : T) → P t → Q t → R t) → IfOk r P → IfOk r Q → IfOk r R
both_ok (Ok t) P Q R f p q = f t p q
both_ok (Err e) P Q R f p q = tt

pub err_all : {T E : Type 0} (r : Result T E) (P : E → Type 0) → ((e : E) → P e) → IfErr r P
err_all (Ok t) P f = tt
err_all (Err e) P f = f e

-- a part of a visit is a load's own
pub own_mark : {S : Type 0} (w : Protocol S) (A : List Entry → Type 0) (t : Attempt) (number : ℕ) (what : EventKind) → IsMarkOf t number what → IsOwn w.alone A t number what
own_mark w A t number what m = subst (IsOwn w.alone A t number) (sym m.is) (refl, refl)

pub own_mark_asked : (A : List Entry → Type 0) (t : Attempt) (number : ℕ) (wish : Wish) → IsMarkAsked t number wish → IsOwnAsked A t number wish
own_mark_asked A t number wish m = subst (IsOwnAsked A t number) (sym m.is) (refl, refl)

-- where more batches are allowed
pub own_as : {S : Type 0} (w : Protocol S) (A B : List Entry → Type 0) (t : Attempt) (number : ℕ) → ((entries : List Entry) → A entries → B entries) → (what : EventKind) → IsOwn w.alone A t number what → IsOwn w.alone B t number what
own_as w A B t number f (happened.Batch entries) h = (h.0, f entries h.1)
own_as w A B t number f (happened.Mark origin visit status snapshot) h = h
own_as w A B t number f (happened.Open origin kind date) h = absurd h

pub own_asked_as : (A B : List Entry → Type 0) (t : Attempt) (number : ℕ) → ((entries : List Entry) → A entries → B entries) → (wish : Wish) → IsOwnAsked A t number wish → IsOwnAsked B t number wish
own_asked_as A B t number f (wished.Batch entries) h = (h.0, f entries h.1)
own_asked_as A B t number f (wished.Mark origin visit status snapshot) h = h
own_asked_as A B t number f (wished.Open origin kind date) h = absurd h

module _ {S : Type 0} (id : Kind → List ℕ → List ℕ) (w : Protocol S) (law : IsLawful id w) where
  pub unended_as : (P P' : EventKind → Type 0) (Q Q' : Wish → Type 0) (a b : S) (why : Stop) → ((what : EventKind) → P what → P' what) → ((wish : Wish) → Q wish → Q' wish) → StopsUnended id w P Q a b why → StopsUnended id w P' Q' a b why
  unended_as P P' Q Q' a b why f g h = record { marks = h.marks; unended = h.unended; after_them = after_as id w law P P' Q Q' h.marks a b why f g h.after_them }

  -- nothing was marked
  pub unended_now : (P : EventKind → Type 0) (Q : Wish → Type 0) (a b : S) (why : Stop) → w.ready a → StopsNow id w Q a b why → StopsUnended id w P Q a b why
  unended_now P Q a b why ready h = record { marks = []; unended = inl refl; after_them = after_now id w law P Q a b why ready h }

  -- the visit goes on
  abbrev Begun : (EventKind → Type 0) → S → S → Type 0
  Begun P a m = Adds w P ((Ongoing, None) ∷ []) a m

  pub begun_stops : (P : EventKind → Type 0) (Q : Wish → Type 0) (a m b : S) (why : Stop) → Begun P a m → StopsNow id w Q m b why → StopsUnended id w P Q a b why
  begun_stops P Q a m b why h k = record { marks = (Ongoing, None) ∷ []; unended = inr refl; after_them = record { mid = m; first = h; stops = k } }

  pub begun_after : (P : EventKind → Type 0) (Q : Wish → Type 0) (a m b : S) (why : Stop) → Begun P a m → StopsAfter id w P Q [] m b why → StopsUnended id w P Q a b why
  begun_after P Q a m b why h k = record { marks = (Ongoing, None) ∷ []; unended = inr refl; after_them = after_then id w law P Q ((Ongoing, None) ∷ []) [] a m b why h k }

  module _ (t : Attempt) (number : ℕ) where
    pub begun : (a m : S) → Adds w (IsKind (mark_of t number Ongoing None)) ((Ongoing, None) ∷ []) a m → Begun (IsMarkOf t number) a m
    begun a m h = adds_as id w law (IsKind (mark_of t number Ongoing None)) (IsMarkOf t number) ((Ongoing, None) ∷ []) a m (of_mark t number Ongoing None) h

    pub not_begun : (a b : S) (why : Stop) → w.ready a → StopsNow id w (IsWished (wished.Mark t.origin number Ongoing None)) a b why → StopsUnended id w (IsMarkOf t number) (IsMarkAsked t number) a b why
    not_begun a b why ready h = unended_now (IsMarkOf t number) (IsMarkAsked t number) a b why ready (asking_as id w law (IsWished (wished.Mark t.origin number Ongoing None)) (IsMarkAsked t number) a b why (asked_mark t number Ongoing None) h)

    -- marks as a load's own
    pub marks_own : (A : List Entry → Type 0) (marks : Statuses) (a b : S) → Adds w (IsMarkOf t number) marks a b → Adds w (IsOwn w.alone A t number) marks a b
    marks_own A marks a b h = adds_as id w law (IsMarkOf t number) (IsOwn w.alone A t number) marks a b (own_mark w A t number) h

    pub unended_own : (A : List Entry → Type 0) (a b : S) (why : Stop) → StopsUnended id w (IsMarkOf t number) (IsMarkAsked t number) a b why → StopsUnended id w (IsOwn w.alone A t number) (IsOwnAsked A t number) a b why
    unended_own A a b why h = unended_as (IsMarkOf t number) (IsOwn w.alone A t number) (IsMarkAsked t number) (IsOwnAsked A t number) a b why (own_mark w A t number) (own_mark_asked A t number) h

    pub now_own : (A : List Entry → Type 0) (a b : S) (why : Stop) → StopsNow id w (IsMarkAsked t number) a b why → StopsNow id w (IsOwnAsked A t number) a b why
    now_own A a b why h = asking_as id w law (IsMarkAsked t number) (IsOwnAsked A t number) a b why (own_mark_asked A t number) h

    -- a mark, and then a load's own
    pub begun_own : (A B : List Entry → Type 0) (last : Status × Option (List ℕ)) (a m b : S) → ((entries : List Entry) → A entries → B entries) → Begun (IsMarkOf t number) a m → Adds w (IsOwn w.alone A t number) (last ∷ []) m b → Adds w (IsOwn w.alone B t number) ((Ongoing, None) ∷ (last ∷ [])) a b
    begun_own A B last a m b f h k =
        adds_then id w law (IsOwn w.alone B t number) ((Ongoing, None) ∷ []) (last ∷ []) a m b (marks_own B ((Ongoing, None) ∷ []) a m h)
        (adds_as id w law (IsOwn w.alone A t number) (IsOwn w.alone B t number) (last ∷ []) m b (own_as w A B t number f) k)

    pub begun_all : {B E : Type 0} (A A' : List Entry → Type 0) (a m b : S) (r : Result (End B) E) → ((entries : List Entry) → A entries → A' entries) → Begun (IsMarkOf t number) a m → IfOk r (λ end. statuses_of end ≡ (Ongoing, None) ∷ (last_at end ∷ []))
        → IfOk r (λ end. Adds w (IsOwn w.alone A t number) (last_at end ∷ []) m b) → IfOk r (λ end. Adds w (IsOwn w.alone A' t number) (statuses_of end) a b)
    begun_all A A' a m b (Ok end) f h is k = subst (λ (ss : Statuses). Adds w (IsOwn w.alone A' t number) ss a b) (sym is) (begun_own A A' (last_at end) a m b f h k)
    begun_all A A' a m b (Err e) f h is k = tt

    pub begun_own_stops : (A B : List Entry → Type 0) (a m b : S) (why : Stop) → ((entries : List Entry) → A entries → B entries) → Begun (IsMarkOf t number) a m → StopsAfter id w (IsOwn w.alone A t number) (IsOwnAsked A t number) [] m b why → StopsUnended id w (IsOwn w.alone B t number) (IsOwnAsked B t number) a b why
    begun_own_stops A B a m b why f h k =
        begun_after (IsOwn w.alone B t number) (IsOwnAsked B t number) a m b why (marks_own B ((Ongoing, None) ∷ []) a m h)
        (after_as id w law (IsOwn w.alone A t number) (IsOwn w.alone B t number) (IsOwnAsked A t number) (IsOwnAsked B t number) [] m b why (own_as w A B t number f) (own_asked_as A B t number f) k)

  -- a visit that was opened under the loader's number
  pub opens_by : (origin : List ℕ) (kind : VisitKind) (date by : ℕ) (a m : S) (number : ℕ) → (w.known a).number ≡ by → Opens id w (attempt (w.known a).number origin kind date) a m number → Opens id w (attempt by origin kind date) a m number
  opens_by origin kind date by a m number same h = subst (λ (n : ℕ). Opens id w (attempt n origin kind date) a m number) same h

  pub opened_ready : (t : Attempt) (a m : S) (number : ℕ) → Opens id w t a m number → w.ready m
  opened_ready t a m number h = law.ready (open_event t ∷ []) a m h.adds

  pub opened_mine : (t : Attempt) (a m : S) (number : ℕ) → (w.known a).number ≡ t.by → Opens id w t a m number → IsMine (w.known m) t number
  opened_mine t a m number same h = record { by_one = (law.grows (open_event t ∷ []) a m h.adds).number ∙ same; statuses = _; visit = h.visit }
