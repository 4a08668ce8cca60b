-- What a load's line says stays true as the archive grows.
use Rattle.std.proofs.Common.{◌≡◌, ℕ, ◌+◌, ◌-◌, ◌<◌, ◌≤◌, Option, Some, None, List, [], ◌∷◌, ◌++◌, length, get_or, refl, sym, ap, ◌∙◌, subst, arith}
use Rattle.std.specs.List.{slice_get}
use Rattle.std.proofs.lemmas.Option.{slice_get-get_or, slice_get_within}
use Rattle.swh_base.specs.declared.kind.Kind.{Kind}
use Rattle.swh_base.specs.declared.name.Name.{Name}
use Rattle.swh_base.specs.declared.visit.Status.TheVariants.{Created}
use Rattle.swh_base.specs.declared.visit.VisitKind.{VisitKind}
use Rattle.swh_base.specs.Visit.{Statuses, IsFinal, last_status}
use Rattle.swh_model.specs.declared.event.Event.{Event}
use Rattle.swh_model.specs.declared.event.Visit.{Visit}
use Rattle.swh_model.specs.Archive.{Archive, Bodies, empty_archive, visits_of}
use Rattle.swh_model.specs.Grows.{IsWithin, IsLaterVisit}
use Rattle.swh_model.specs.Step.{IsHistory, after_all, replay, visit_at}
use Rattle.swh_model.proofs.Growing.{bodies_grow, visits_grow}
use Rattle.swh_model.proofs.Histories.{fronts}
use Rattle.swh_model.proofs.Visits.{all-map}
use Rattle.swh_inputs.specs.Input.{InputText}
use Rattle.swh_ingest.specs.Owning.{Attempt}
use Rattle.swh_ingest.specs.Sending.{IsHeldWhole}
use Rattle.swh_ingest.specs.Visiting.{IsVisit, next_visit, visit_with}
use Rattle.swh_loader.specs.Ending.{IsFull, Collided, statuses_of}
use Rattle.swh_loader.specs.declared.end.End.{End}
use Rattle.swh_loader.specs.declared.end.End.TheVariants.{Full, NotFound, Failed}

-- by more bodies
module _ (id : Kind → List ℕ → List ℕ) (text : InputText) (a b : Bodies) (within : IsWithin a b) where
  pub full_later : (snapshot : List ℕ) → IsFull id text a snapshot → IsFull id text b snapshot
  full_later snapshot full = record {
    objects = full.objects;
    means = full.means;
    held = all-map (IsHeldWhole a) (IsHeldWhole b) (λ e held. within e.name e.body held) full.objects full.held;
  }

  pub collided_later : (name : Name) → Collided id text a name → Collided id text b name
  collided_later name is =
      let met = is.collision in
      record {
        objects = is.objects;
        may = is.may;
        collision = record { entry = met.entry; among = met.among; named = met.named; other = (met.other.0, within met.entry.name met.other.0 met.other.1, met.other.2) };
      }

-- a visit of these parts
abbrev visit_of : ℕ → ℕ → VisitKind → ℕ → Statuses → Visit
visit_of number date kind by statuses = record { number = number; date = date; kind = kind; by = by; statuses = statuses }

same_opening : (t : Attempt) (number : ℕ) (x : Visit) → x.number ≡ number → x.date ≡ t.date → x.kind ≡ t.kind → x.by ≡ t.by → x ≡ visit_with t number x.statuses
same_opening t number x n d k b =
    ap (λ (m : ℕ). visit_of m x.date x.kind x.by x.statuses) n
    ∙ ap (λ (m : ℕ). visit_of number m x.kind x.by x.statuses) d
    ∙ ap (λ (m : VisitKind). visit_of number t.date m x.by x.statuses) k
    ∙ ap (λ (m : ℕ). visit_of number t.date t.kind m x.statuses) b

-- The visit is there later, with these statuses and perhaps more, of which there are none after an end.
pub record IsVisitLater (h : List Event) (t : Attempt) (number : ℕ) (statuses : Statuses) : Type 0 where
  pub more : Statuses
  pub visit : IsVisit h t number (statuses ++ more)
  pub ended : IsFinal (last_status statuses) → more ≡ []

later_visit : (t : Attempt) (number : ℕ) (statuses : Statuses) (h : List Event) (o : Option Visit) → 0 < number → visit_at (visits_of (replay h).origins t.origin) number ≡ o → IsLaterVisit (visit_with t number statuses) o → IsVisitLater h t number statuses
later_visit t number statuses h None positive is later = absurd later
later_visit t number statuses h (Some w) positive is later = record {
  more = later.more;
  visit = record {
    positive = positive;
    there = is ∙ ap (λ (x : Visit). Some x) (same_opening t number w later.number later.date later.kind later.by ∙ ap (visit_with t number) later.statuses);
  };
  ended = later.ended;
}

-- with more events
module _ (id : Kind → List ℕ → List ℕ) (h more : List Event) (history : IsHistory id (h ++ more)) where
  grown : replay (h ++ more) ≡ after_all (replay h) more
  grown = (fronts id empty_archive h more history).2

  pub within_later : IsWithin (replay h).bodies (replay (h ++ more)).bodies
  within_later = subst (λ (a : Archive). IsWithin (replay h).bodies a.bodies) (sym grown) (bodies_grow id (replay h) more (fronts id empty_archive h more history).1)

  stays : (url : List ℕ) (number : ℕ) (v : Visit) → visit_at (visits_of (replay h).origins url) number ≡ Some v → IsLaterVisit v (visit_at (visits_of (replay (h ++ more)).origins url) number)
  stays url number v is =
      subst (λ (a : Archive). IsLaterVisit v (visit_at (visits_of a.origins url) number)) (sym grown) (visits_grow id (replay h) more url number v (fronts id empty_archive h more history).1 is)

  pub visit_later : (t : Attempt) (number : ℕ) (statuses : Statuses) → IsVisit h t number statuses → IsVisitLater (h ++ more) t number statuses
  visit_later t number statuses v = later_visit t number statuses (h ++ more) _ v.positive refl (stays t.origin number (visit_with t number statuses) v.there)

  some_later : (v : Visit) (o : Option Visit) → IsLaterVisit v o → (w : Visit) × (o ≡ Some w)
  some_later v None later = absurd later
  some_later v (Some w) later = (w, refl)

  -- no origin has fewer visits
  longer : (url : List ℕ) (vs : List Visit) → visits_of (replay h).origins url ≡ vs → length vs ≤ length (visits_of (replay (h ++ more)).origins url)
  longer url [] is = omega arith
  longer url (v ∷ vs) is =
      let last = length vs in
      let w : Visit = get_or (v ∷ vs) last v in
      let place : last + 1 - 1 ≡ last = omega arith in
      let at : visit_at (v ∷ vs) (last + 1) ≡ Some w = ap (slice_get (v ∷ vs)) place ∙ slice_get-get_or (v ∷ vs) last v (omega arith) in
      let here : visit_at (visits_of (replay h).origins url) (last + 1) ≡ Some w = ap (λ (ws : List Visit). visit_at ws (last + 1)) is ∙ at in
      let now = visit_at (visits_of (replay (h ++ more)).origins url) (last + 1) in
      let there = some_later w now (stays url (last + 1) w here) in
      let below = slice_get_within (visits_of (replay (h ++ more)).origins url) (last + 1 - 1) there.0 there.1 in
      omega (arith, below)

  pub next_later : (url : List ℕ) → next_visit h url ≤ next_visit (h ++ more) url
  next_later url = let l = longer url (visits_of (replay h).origins url) refl in omega (arith, l)

-- an end's last status is one
pub ended_final : (end : End) → IsFinal (last_status ((Created, None) ∷ statuses_of end))
ended_final (Full snapshot) = tt
ended_final NotFound = tt
ended_final (Failed bad) = tt
