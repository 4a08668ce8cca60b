-- An archive over plain lists.
use Rattle.std.specs.Prelude.{◌≡◌, ◌≢◌, ℕ, zero, suc, List, [], ◌∷◌, map, refl}
use Rattle.std.specs.Coded.{Coded, code_by, coded×, coded_ℕ, coded_list}
use Rattle.std.specs.FinMap as finite
use Rattle.swh_base.specs.contracts.name.Name as a_name
use Rattle.swh_base.specs.declared.entry.Entry.{Entry}
use Rattle.swh_model.specs.contracts.event.Visit as a_visit
use Rattle.swh_model.specs.declared.event.Visit.{Visit}
use Rattle.swh_model.specs.declared.origins.VisitedOrigin.{VisitedOrigin}
use Rattle.swh_model.specs.Archive.{Archive, Bodies, Origins}
use Rattle.swh_model.specs.Step.{added}

-- how archives are told apart
abbrev pub archive_code : Coded Archive
archive_code =
    code_by (Bodies × Origins) (coded× (finite.code a_name.the_row.coded (coded_list coded_ℕ)) (finite.code (coded_list coded_ℕ) (coded_list a_visit.the_row.coded)))
    (λ a. (a.bodies, a.origins)) (λ p. record { bodies = p.0; origins = p.1 }) (λ _. refl)

-- the map of these entries, the last of which is the newest
abbrev pub bodies_in : List Entry → Bodies
bodies_in entries = added finite.empty entries

-- an origin's bytes and its visits
abbrev pub with_visits : VisitedOrigin → List ℕ × List Visit
with_visits o = (o.origin, o.visits.items)

-- the map of these origins
abbrev pub origins_in : List VisitedOrigin → Origins
origins_in origins = finite.from_entries (map with_visits origins)

-- The first of this origin stands at the place.
abbrev pub IsPlaceOf : List ℕ → List VisitedOrigin → ℕ → Type 0
IsPlaceOf url [] place = ⊥
IsPlaceOf url (o ∷ os) zero = o.origin ≡ url
IsPlaceOf url (o ∷ os) (suc place) = (o.origin ≢ url) × IsPlaceOf url os place
