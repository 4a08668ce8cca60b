-- The end of a visit.
use Rattle.std.proofs.Common.{ℕ, Option, List, [], ◌∷◌, ◌∙◌}
use Rattle.swh_base.specs.declared.kind.Kind.{Kind}
use Rattle.swh_base.specs.declared.visit.Status.{Status}
use Rattle.swh_base.specs.Snapshot.{snapshot_name}
use Rattle.swh_base.specs.Visit.{Statuses}
use Rattle.swh_model.specs.declared.event.EventKind.{EventKind}
use Rattle.swh_model.specs.declared.event.Wish.{Wish}
use Rattle.swh_model.specs.declared.event.Wish.TheVariants as wished
use Rattle.swh_model.specs.Archive.{IsClosed}
use Rattle.swh_model.proofs.Walks.{closed-within}
use Rattle.swh_ingest.specs.Knowing.{Protocol, IsLawful, held_in}
use Rattle.swh_ingest.specs.declared.stop.Stop.{Stop}
use Rattle.swh_ingest.specs.Owning.{Attempt, mark_of, IsKind, IsWished}
use Rattle.swh_ingest.specs.Visiting.{IsMine}
use Rattle.swh_ingest.specs.Walking.{Adds, StopsNow, StopsAfter}
use Rattle.swh_ingest.specs.Ending.{IsMarkOf, IsMarkAsked}
use Rattle.swh_ingest.proofs.Steps.{adds_as, adds_behind, adds_number, adds_then, adds_within, asking_as}
use Rattle.swh_ingest.proofs.Marks.{goes_on}

-- a mark is one of its visit
pub of_mark : (t : Attempt) (number : ℕ) (status : Status) (snapshot : Option (List ℕ)) (what : EventKind) → IsKind (mark_of t number status snapshot) what → IsMarkOf t number what
of_mark t number status snapshot what is = record { status = status; snapshot = snapshot; is = is }

pub asked_mark : (t : Attempt) (number : ℕ) (status : Status) (snapshot : Option (List ℕ)) (wish : Wish) → IsWished (wished.Mark t.origin number status snapshot) wish → IsMarkAsked t number wish
asked_mark t number status snapshot wish is = record { status = status; snapshot = snapshot; is = is }

module _ {S : Type 0} (id : Kind → List ℕ → List ℕ) (w : Protocol S) (law : IsLawful id w) where
  -- the visit is still the loader's
  pub mine_on : (P : EventKind → Type 0) (marks : Statuses) (a b : S) (t : Attempt) (number : ℕ) → Adds w P marks a b → IsMine (w.known a) t number → IsMine (w.known b) t number
  mine_on P marks a b t number h mine =
      let on = goes_on id w.alone (w.known a).front (w.known b).front t number mine.statuses (adds_behind id w law P marks a b h) mine.visit in
      record { by_one = adds_number id w law P marks a b h ∙ mine.by_one; statuses = on.statuses; visit = on.visit }

  -- what was closed is closed
  pub closed_on : (P : EventKind → Type 0) (marks : Statuses) (a b : S) (snapshot : List ℕ) → Adds w P marks a b → IsClosed (held_in (w.known a)) (snapshot_name snapshot) → IsClosed (held_in (w.known b)) (snapshot_name snapshot)
  closed_on P marks a b snapshot h closed = closed-within (held_in (w.known a)) (held_in (w.known b)) (snapshot_name snapshot) (adds_within id w law P marks a b h) closed

  -- a mark after other events
  pub marked_after : (P : EventKind → Type 0) (t : Attempt) (number : ℕ) (status : Status) (snapshot : Option (List ℕ)) (a m b : S) → ((what : EventKind) → IsMarkOf t number what → P what)
      → Adds w P [] a m → Adds w (IsKind (mark_of t number status snapshot)) ((status, snapshot) ∷ []) m b → Adds w P ((status, snapshot) ∷ []) a b
  marked_after P t number status snapshot a m b f first last =
      adds_then id w law P [] ((status, snapshot) ∷ []) a m b first
      (adds_as id w law (IsKind (mark_of t number status snapshot)) P ((status, snapshot) ∷ []) m b (λ what is. f what (of_mark t number status snapshot what is)) last)

  pub mark_stops_after : (P : EventKind → Type 0) (Q : Wish → Type 0) (t : Attempt) (number : ℕ) (status : Status) (snapshot : Option (List ℕ)) (a m b : S) (why : Stop) → ((wish : Wish) → IsMarkAsked t number wish → Q wish)
      → Adds w P [] a m → StopsNow id w (IsWished (wished.Mark t.origin number status snapshot)) m b why → StopsAfter id w P Q [] a b why
  mark_stops_after P Q t number status snapshot a m b why f first stops = record {
    mid = m;
    first = first;
    stops = asking_as id w law (IsWished (wished.Mark t.origin number status snapshot)) Q m b why (λ wish is. f wish (asked_mark t number status snapshot wish is)) stops;
  }
