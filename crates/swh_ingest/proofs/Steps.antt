-- What one step adds, and one step after another.
use Rattle.std.specs.Prelude.{IfOk, OnOk}
use Rattle.std.proofs.Common.{◌≡◌, inl, inr, ℕ, true, Result, Ok, Err, List, [], ◌∷◌, ◌++◌, refl, sym, ap, ◌∙◌, append_assoc}
use Rattle.std.proofs.lemmas.List.{append-nil}
use Rattle.swh_base.specs.declared.kind.Kind.{Kind}
use Rattle.swh_base.specs.Visit.{Statuses}
use Rattle.swh_base.proofs.Elementary.{all_as}
use Rattle.swh_model.specs.declared.event.Event.{Event}
use Rattle.swh_model.specs.declared.event.EventKind.{EventKind}
use Rattle.swh_model.specs.declared.event.Wish.{Wish}
use Rattle.swh_model.specs.Step.{replay}
use Rattle.swh_model.specs.Grows.{IsWithin}
use Rattle.swh_model.proofs.Entries.{all-append}
use Rattle.swh_ingest.specs.Knowing.{Protocol, IsLawful, held_in}
use Rattle.swh_ingest.proofs.Growing.{IsBehind, runs_behind, runs_alone, behind_within}
use Rattle.swh_ingest.specs.declared.stop.Stop.{Stop}
use Rattle.swh_ingest.specs.declared.stop.Stop.TheVariants.{Memory}
use Rattle.swh_ingest.specs.Owning.{marks_in, marks_of}
use Rattle.swh_ingest.specs.Walking.{IsBy, Adds, StopsNow, StopsAfter}

pub marks-append : (xs ys : List Event) → marks_of (xs ++ ys) ≡ marks_of xs ++ marks_of ys
marks-append [] ys = refl
marks-append (x ∷ xs) ys = ap (λ (t : Statuses). marks_in x.what ++ t) (marks-append xs ys) ∙ sym (append_assoc (marks_in x.what) (marks_of xs) (marks_of ys))

module _ {S : Type 0} (id : Kind → List ℕ → List ℕ) (w : Protocol S) (law : IsLawful id w) where
  pub adds_looks : (P : EventKind → Type 0) (a b : S) → w.adds [] a b → Adds w P [] a b
  adds_looks P a b looks = record { own = []; each = tt; marked = refl; adds = looks }

  pub adds_none : (P : EventKind → Type 0) (s : S) → w.ready s → Adds w P [] s s
  adds_none P s ready = adds_looks P s s (law.none s ready)

  pub by_as : (P Q : EventKind → Type 0) (m n : ℕ) → m ≡ n → ((what : EventKind) → P what → Q what) → (e : Event) → IsBy m P e → IsBy n Q e
  by_as P Q m n same f e h = record { by_one = h.by_one ∙ same; added = f e.what h.added }

  pub adds_as : (P Q : EventKind → Type 0) (marks : Statuses) (a b : S) → ((what : EventKind) → P what → Q what) → Adds w P marks a b → Adds w Q marks a b
  adds_as P Q marks a b f h = record {
    own = h.own;
    each = all_as (IsBy (w.known a).number P) (IsBy (w.known a).number Q) (by_as P Q (w.known a).number (w.known a).number refl f) h.own h.each;
    marked = h.marked;
    adds = h.adds;
  }

  pub adds_number : (P : EventKind → Type 0) (marks : Statuses) (a b : S) → Adds w P marks a b → (w.known b).number ≡ (w.known a).number
  adds_number P marks a b h = (law.grows h.own a b h.adds).number

  pub adds_ready : (P : EventKind → Type 0) (marks : Statuses) (a b : S) → Adds w P marks a b → w.ready b
  adds_ready P marks a b h = law.ready h.own a b h.adds

  pub adds_then : (P : EventKind → Type 0) (ms ns : Statuses) (a b c : S) → Adds w P ms a b → Adds w P ns b c → Adds w P (ms ++ ns) a c
  adds_then P ms ns a b c h k = record {
    own = h.own ++ k.own;
    each = all-append (IsBy (w.known a).number P) h.own k.own h.each
        (all_as (IsBy (w.known b).number P) (IsBy (w.known a).number P) (by_as P P (w.known b).number (w.known a).number (adds_number P ms a b h) (λ what is. is)) k.own k.each);
    marked = marks-append h.own k.own ∙ ap (λ (t : Statuses). t ++ marks_of k.own) h.marked ∙ ap (λ (t : Statuses). ms ++ t) k.marked;
    adds = law.further h.own k.own a b c h.adds k.adds;
  }

  pub adds_behind : (P : EventKind → Type 0) (marks : Statuses) (a b : S) → Adds w P marks a b → IsBehind id w.alone (w.known a).front (w.known b).front
  adds_behind P marks a b h = runs_behind id w.alone (w.known a).front h.own (w.known b).front (law.grows h.own a b h.adds).runs

  pub adds_within : (P : EventKind → Type 0) (marks : Statuses) (a b : S) → Adds w P marks a b → IsWithin (held_in (w.known a)) (held_in (w.known b))
  adds_within P marks a b h = behind_within id w.alone (w.known a).front (w.known b).front (adds_behind P marks a b h)

  -- what is seen by a look is what was there where nobody else adds
  pub looks_same : (a b : S) → w.adds [] a b → w.alone ≡ true → (w.known b).front ≡ (w.known a).front
  looks_same a b looks one = runs_alone id w.alone (w.known a).front [] (w.known b).front one (law.grows [] a b looks).runs ∙ append-nil (w.known a).front

  pub looks_bodies : (a b : S) → w.adds [] a b → w.alone ≡ true → held_in (w.known b) ≡ held_in (w.known a)
  looks_bodies a b looks one = ap (λ (h : List Event). (replay h).bodies) (looks_same a b looks one)

  pub asking_as : (P Q : Wish → Type 0) (a b : S) (why : Stop) → ((wish : Wish) → P wish → Q wish) → StopsNow id w P a b why → StopsNow id w Q a b why
  asking_as P Q a b why f (inl none) = inl none
  asking_as P Q a b why f (inr h) = inr (record { wish = h.wish; tried = f h.wish h.tried; ready = h.ready; refusal = h.refusal; is_why = h.is_why; refuses = h.refuses })

  pub after_as : (P P' : EventKind → Type 0) (Q Q' : Wish → Type 0) (marks : Statuses) (a b : S) (why : Stop) → ((what : EventKind) → P what → P' what) → ((wish : Wish) → Q wish → Q' wish) → StopsAfter id w P Q marks a b why → StopsAfter id w P' Q' marks a b why
  after_as P P' Q Q' marks a b why f g h = record { mid = h.mid; first = adds_as P P' marks a h.mid f h.first; stops = asking_as Q Q' h.mid b why g h.stops }

  pub after_now : (P : EventKind → Type 0) (Q : Wish → Type 0) (a b : S) (why : Stop) → w.ready a → StopsNow id w Q a b why → StopsAfter id w P Q [] a b why
  after_now P Q a b why ready h = record { mid = a; first = adds_none P a ready; stops = h }

  -- a look that wants memory
  pub after_looks : (P : EventKind → Type 0) (Q : Wish → Type 0) (a b : S) → w.adds [] a b → StopsAfter id w P Q [] a b Memory
  after_looks P Q a b looks = record { mid = b; first = adds_looks P a b looks; stops = inl (refl, refl) }

  pub after_then : (P : EventKind → Type 0) (Q : Wish → Type 0) (ms ns : Statuses) (a b c : S) (why : Stop) → Adds w P ms a b → StopsAfter id w P Q ns b c why → StopsAfter id w P Q (ms ++ ns) a c why
  after_then P Q ms ns a b c why h k = record { mid = k.mid; first = adds_then P ms ns a b k.mid h k.first; stops = k.stops }

-- what holds of a result, by what else holds where it goes on
pub on_sent : {T E : Type 0} (r : Result T E) {A : Type 0} → OnOk r A → (P Q : T → Type 0) → (A → (t : T) → P t → Q t) → IfOk r P → IfOk r Q
on_sent (Ok t) a P Q f h = f a t h
on_sent (Err e) a P Q f h = tt
