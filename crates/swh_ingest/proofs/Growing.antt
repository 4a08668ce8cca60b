-- What stays as a front grows.
use Rattle.std.proofs.Common.{◌≡◌, ℕ, Bool, true, Some, List, [], ◌∷◌, ◌++◌, refl, sym, ap, ◌∙◌, subst, append_assoc}
use Rattle.std.proofs.lemmas.List.{append-nil}
use Rattle.swh_base.specs.declared.kind.Kind.{Kind}
use Rattle.swh_model.specs.declared.event.Event.{Event}
use Rattle.swh_model.specs.declared.event.Visit.{Visit}
use Rattle.swh_model.specs.Archive.{Archive, empty_archive, visits_of}
use Rattle.swh_model.specs.Step.{May, MayAll, after, after_all, replay, visit_at}
use Rattle.swh_model.specs.Grows.{IsWithin, IsLaterVisit}
use Rattle.swh_model.proofs.Growing.{bodies_grow, visits_grow}
use Rattle.swh_ingest.specs.Knowing.{Follows, Runs}

pub after-append : (a : Archive) (g h : List Event) → after_all a (g ++ h) ≡ after_all (after_all a g) h
after-append a [] h = refl
after-append a (e ∷ g) h = after-append (after a e) g h

pub replay-append : (g h : List Event) → replay (g ++ h) ≡ after_all (replay g) h
replay-append g h = after-append empty_archive g h

module _ (id : Kind → List ℕ → List ℕ) (alone : Bool) where
  pub may-append : (a : Archive) (g h : List Event) → MayAll id a g → MayAll id (after_all a g) h → MayAll id a (g ++ h)
  may-append a [] h m n = n
  may-append a (e ∷ g) h m n = (m.0, may-append (after a e) g h m.1 n)

  -- what stands behind a history
  pub record IsBehind (g h : List Event) : Type 0 where
    pub more : List Event
    pub behind : h ≡ g ++ more
    pub may : MayAll id (replay g) more

  pub behind_then : (f g h : List Event) → IsBehind f g → IsBehind g h → IsBehind f h
  behind_then f g h a b = record {
    more = a.more ++ b.more;
    behind = b.behind ∙ ap (λ (t : List Event). t ++ b.more) a.behind ∙ append_assoc f a.more b.more;
    may = may-append (replay f) a.more b.more a.may (subst (λ (x : Archive). MayAll id x b.more) (ap replay a.behind ∙ replay-append f a.more) b.may);
  }

  pub follows_self : (h : List Event) → Follows id alone h h
  follows_self h = record { gap = []; behind = sym (append-nil h); may = tt; quiet = λ _. refl }

  pub follows_alone : (g h : List Event) → Follows id alone g h → alone ≡ true → h ≡ g
  follows_alone g h f one = f.behind ∙ ap (λ (t : List Event). g ++ t) (f.quiet one) ∙ append-nil g

  pub follows_behind : (g h : List Event) → Follows id alone g h → IsBehind g h
  follows_behind g h f = record { more = f.gap; behind = f.behind; may = f.may }

  pub event_behind : (g : List Event) (e : Event) → May id (replay g) e → IsBehind g (g ++ e ∷ [])
  event_behind g e may = record { more = e ∷ []; behind = refl; may = (may, tt) }

  pub runs_behind : (g : List Event) (own : List Event) (h : List Event) → Runs id alone g own h → IsBehind g h
  runs_behind g [] h r = follows_behind g h r
  runs_behind g (e ∷ own) h r =
      behind_then g r.0 h (follows_behind g r.0 r.1) (behind_then r.0 (r.0 ++ e ∷ []) h (event_behind r.0 e r.2) (runs_behind (r.0 ++ e ∷ []) own h r.3))

  -- where nobody else adds, nothing stands between
  pub runs_alone : (g : List Event) (own : List Event) (h : List Event) → alone ≡ true → Runs id alone g own h → h ≡ g ++ own
  runs_alone g [] h one r = r.behind ∙ ap (λ (t : List Event). g ++ t) (r.quiet one)
  runs_alone g (e ∷ own) h one r =
      runs_alone (r.0 ++ e ∷ []) own h one r.3 ∙ ap (λ (t : List Event). (t ++ e ∷ []) ++ own) (follows_alone g r.0 r.1 one) ∙ append_assoc g (e ∷ []) own

  -- what was held is held
  pub behind_within : (g h : List Event) → IsBehind g h → IsWithin (replay g).bodies (replay h).bodies
  behind_within g h b =
      subst (λ (x : Archive). IsWithin (replay g).bodies x.bodies) (sym (ap replay b.behind ∙ replay-append g b.more)) (bodies_grow id (replay g) b.more b.may)

  -- a visit goes on
  pub behind_visit : (g h : List Event) (url : List ℕ) (number : ℕ) (v : Visit) → IsBehind g h → visit_at (visits_of (replay g).origins url) number ≡ Some v → IsLaterVisit v (visit_at (visits_of (replay h).origins url) number)
  behind_visit g h url number v b there =
      subst (λ (x : Archive). IsLaterVisit v (visit_at (visits_of x.origins url) number)) (sym (ap replay b.behind ∙ replay-append g b.more)) (visits_grow id (replay g) b.more url number v b.may there)
