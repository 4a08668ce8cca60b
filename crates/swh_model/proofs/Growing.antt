-- What stays as an archive grows, by one event and by many.
use Rattle.std.proofs.Common.{◌≡◌, ℕ, ◌-◌, List, [], ◌∷◌, ◌++◌, Option, Some, None, refl, sym, ap, ◌∙◌, subst}
use Rattle.std.proofs.lemmas.List.{append_assoc, append-nil}
use Rattle.swh_base.specs.declared.kind.Kind.{Kind}
use Rattle.swh_model.specs.declared.event.Visit.{Visit}
use Rattle.swh_model.specs.declared.event.Event.{Event}
use Rattle.swh_model.specs.declared.event.EventKind.{EventKind}
use Rattle.swh_model.specs.declared.event.EventKind.TheVariants.{Batch, Open, Mark}
use Rattle.swh_model.specs.Archive.{Archive, visits_of}
use Rattle.swh_model.specs.Step.{May_kind, MayAll, after, after_kind, after_all, visit_at}
use Rattle.swh_base.specs.Visit.{IsFinal, Statuses, last_status}
use Rattle.swh_model.specs.Grows.{IsWithin, ContinuesVisit, IsLaterVisit}
use Rattle.swh_model.proofs.Maps.{within-added, visits_cases}
use Rattle.swh_model.proofs.Visits.{later_same, get-push, get-marked}

pub bodies_stay : (id_of : Kind → List ℕ → List ℕ) (a : Archive) (by : ℕ) (what : EventKind) → May_kind id_of a by what → IsWithin a.bodies (after_kind a by what).bodies
bodies_stay id_of a by (Batch entries) may n body is = within-added a.bodies entries may.new n body is
bodies_stay id_of a by what may n body is = is

pub visit_stays : (id_of : Kind → List ℕ → List ℕ) (a : Archive) (by : ℕ) (what : EventKind) (url : List ℕ) (number : ℕ) (v : Visit) → May_kind id_of a by what
    → visit_at (visits_of a.origins url) number ≡ Some v → IsLaterVisit v (visit_at (visits_of (after_kind a by what).origins url) number)
visit_stays id_of a by (Open origin kind date) url number v may is =
    visits_cases a.origins origin _ url (λ (vs : List Visit). IsLaterVisit v (visit_at vs number))
    (λ at. later_same v _ (get-push (visits_of a.origins origin) _ (number - 1) v (subst (λ (u : List ℕ). visit_at (visits_of a.origins u) number ≡ Some v) at is)))
    (later_same v _ is)
visit_stays id_of a by (Mark origin visit status snapshot) url number v may is =
    visits_cases a.origins origin _ url (λ (vs : List Visit). IsLaterVisit v (visit_at vs number))
    (λ at. get-marked (visits_of a.origins origin) (visit - 1) (number - 1) status snapshot may.visit v may.there may.unended
    (subst (λ (u : List ℕ). visit_at (visits_of a.origins u) number ≡ Some v) at is))
    (later_same v _ is)
visit_stays id_of a by what url number v may is = later_same v _ is

pub bodies_grow : (id_of : Kind → List ℕ → List ℕ) (a : Archive) (more : List Event) → MayAll id_of a more → IsWithin a.bodies (after_all a more).bodies
bodies_grow id_of a [] may n body is = is
bodies_grow id_of a (e ∷ es) may n body is = bodies_grow id_of (after a e) es may.1 n body (bodies_stay id_of a e.by e.what may.0 n body is)

-- a visit that goes on from one that went on
later_still : (v w x : Visit) → ContinuesVisit v w → ContinuesVisit w x → ContinuesVisit v x
later_still v w x one two =
    record {
      number = two.number ∙ one.number;
      date = two.date ∙ one.date;
      kind = two.kind ∙ one.kind;
      by = two.by ∙ one.by;
      more = one.more ++ two.more;
      statuses = two.statuses ∙ ap (λ (s : Statuses). s ++ two.more) one.statuses ∙ append_assoc v.statuses one.more two.more;
      ended = λ final.
          let none = one.ended final in
          let same : w.statuses ≡ v.statuses = one.statuses ∙ ap (λ (s : Statuses). v.statuses ++ s) none ∙ append-nil v.statuses in
          let none_more = two.ended (subst (λ (s : Statuses). IsFinal (last_status s)) (sym same) final) in
          ap (λ (s : Statuses). s ++ two.more) none ∙ none_more;
    }

later_then : (v w : Visit) (o : Option Visit) → ContinuesVisit v w → IsLaterVisit w o → IsLaterVisit v o
later_then v w None one two = two
later_then v w (Some x) one two = later_still v w x one two

pub visits_grow : (id_of : Kind → List ℕ → List ℕ) (a : Archive) (more : List Event) (url : List ℕ) (number : ℕ) (v : Visit) → MayAll id_of a more
    → visit_at (visits_of a.origins url) number ≡ Some v → IsLaterVisit v (visit_at (visits_of (after_all a more).origins url) number)
visits_grow id_of a [] url number v may is = later_same v _ is
visits_grow id_of a (e ∷ es) url number v may is =
    behind (visit_at (visits_of (after a e).origins url) number) refl (visit_stays id_of a e.by e.what url number v may.0 is) (λ w at. visits_grow id_of (after a e) es url number w may.1 at)
  where
    final : Option Visit
    final = visit_at (visits_of (after_all (after a e) es).origins url) number

    behind : (o : Option Visit) → visit_at (visits_of (after a e).origins url) number ≡ o → IsLaterVisit v o → ((w : Visit) → visit_at (visits_of (after a e).origins url) number ≡ Some w → IsLaterVisit w final) → IsLaterVisit v final
    behind None at later on = absurd later
    behind (Some w) at later on = later_then v w final later (on w at)
