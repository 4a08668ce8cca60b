-- What was made so far, and where an object of a digest may stand among it.
use Rattle.std.specs.Prelude.{◌≡◌, ℕ, zero, suc, ◌+◌, ◌*◌, ◌%◌, ◌^◌, Contains, List, [], ◌∷◌, ◌++◌, length, get_or, Option, Some, None, slice_get}
use Rattle.std.specs.Global.{Vec}
use Rattle.std.specs.Ordering.{nat_cmp}
use Rattle.std.specs.List.{fold}
use Rattle.std.specs.Map.{lookup}
use Rattle.std.specs.BTreeMap.{is_at}
use Rattle.swh_base.specs.declared.kind.Kind.{Kind}
use Rattle.swh_model.specs.Meaning.{Made}
use Rattle.swh_dedup.specs.declared.seen.Kept.{Kept}
use Rattle.swh_dedup.specs.declared.places.Places.{Places}
use Rattle.swh_dedup.specs.declared.seen.Novelty.{Novelty}
use Rattle.swh_dedup.specs.declared.seen.Novelty.TheVariants.{New, Known}

-- what is kept of an object
abbrev pub kept_made : Kept → Made
kept_made k = record { kind = k.kind; body = k.body }

-- a number with a byte behind it, of which 64 bits are kept
abbrev pub with_byte : ℕ → ℕ → ℕ
with_byte digest byte = ((digest * 256) % 2 ^ 64 + byte) % 2 ^ 64

-- a number for an id, which few others share: its last eight bytes
abbrev pub digest_of : List ℕ → ℕ
digest_of id = fold with_byte 0 id

-- where further objects of a digest stand
abbrev pub places_in : Option (Vec ℕ) → List ℕ
places_in None = []
places_in (Some places) = places.items

-- the first place, where there is one, and then further ones
abbrev pub first_and : Option ℕ → List ℕ → List ℕ
first_and None further = []
first_and (Some place) further = place ∷ further

-- where the first object of this digest stands
abbrev pub first_at : List (ℕ × ℕ) → ℕ → Option ℕ
first_at first digest = lookup (is_at (nat_cmp digest)) first

-- where the others of this digest stand
abbrev pub further_at : List (ℕ × Vec ℕ) → ℕ → List ℕ
further_at further digest = places_in (lookup (is_at (nat_cmp digest)) further)

-- the places at which the maps have objects of this digest
abbrev pub mapped_at : Places → ℕ → List ℕ
mapped_at p digest = first_and (first_at p.first.entries digest) (further_at p.further.entries digest)

-- to which place a mark leads, if it is one
abbrev pub marked : ℕ → Option ℕ
marked zero = None
marked (suc place) = Some place

-- to which place the slot of this digest leads
abbrev pub slot_at : List ℕ → ℕ → Option ℕ
slot_at slots digest = marked (get_or slots (digest % length slots) 0)

-- the place to which a slot leads, where it leads to one, and then those that the maps have
abbrev pub led_and : Option ℕ → List ℕ → List ℕ
led_and None mapped = mapped
led_and (Some place) mapped = place ∷ mapped

-- the places at which objects of this digest may stand
abbrev pub places_at : Places → ℕ → List ℕ
places_at p digest = led_and (slot_at p.slots.items digest) (mapped_at p digest)

-- The object stands at one of the places of its id's digest, whose slot is not free.
pub record IsFound (id_of : Kind → List ℕ → List ℕ) (made : List Made) (places : Places) (m : Made) : Type 0 where
  pub place : ℕ
  pub among : Contains (places_at places (digest_of (id_of m.kind m.body))) place
  pub taken : slot_at places.slots.items (digest_of (id_of m.kind m.body)) ≡ None → ⊥
  pub there : slice_get made place ≡ Some m

-- Each object stands at one of the places of its id's digest.
abbrev pub IsIndexed : (Kind → List ℕ → List ℕ) → List Made → Places → Type 0
IsIndexed id_of made places = (m : Made) → Contains made m → IsFound id_of made places m

-- A slot that leads to a place goes on to lead there.
abbrev pub SlotsStay : List ℕ → List ℕ → Type 0
SlotsStay old new = (digest : ℕ) (place : ℕ) → slot_at old digest ≡ Some place → slot_at new digest ≡ Some place

-- The slot of the digest was free, and leads to this place.
pub record TakesSlot (digest : ℕ) (place : ℕ) (old new : List ℕ) : Type 0 where
  pub free : slot_at old digest ≡ None
  pub there : slot_at new digest ≡ Some place

-- The maps have no fewer places.
abbrev pub MappedStay : Places → Places → Type 0
MappedStay old new = (other : ℕ) (k : ℕ) → Contains (mapped_at old other) k → Contains (mapped_at new other) k

-- In the maps the digest has one place more, and no place is lost.
pub record GetsMapped (digest : ℕ) (place : ℕ) (old new : Places) : Type 0 where
  pub there : Contains (mapped_at new digest) place
  pub stay : MappedStay old new

-- In the maps each digest has the same places.
abbrev pub SameMapped : Places → Places → Type 0
SameMapped old new = (digest : ℕ) → mapped_at new digest ≡ mapped_at old digest

-- No place is lost, and no slot becomes free.
pub record PlacesStay (old new : Places) : Type 0 where
  pub slots : SlotsStay old.slots.items new.slots.items
  pub mapped : MappedStay old new

-- The digest has one place more, its slot is taken, and no place is lost.
pub record GetsPlace (digest : ℕ) (place : ℕ) (old new : Places) : Type 0 where
  pub there : Contains (places_at new digest) place
  pub taken : slot_at new.slots.items digest ≡ None → ⊥
  pub stay : PlacesStay old new

-- The digest has one place more among further ones, and no place is lost.
pub record GetsOther (digest : ℕ) (place : ℕ) (old new : List (ℕ × Vec ℕ)) : Type 0 where
  pub there : Contains (further_at new digest) place
  pub stay : (other : ℕ) (k : ℕ) → Contains (further_at old other) k → Contains (further_at new other) k

-- A digest that led nowhere leads to this place, and others lead where they led.
pub record LeadsTo (digest : ℕ) (place : ℕ) (old new : List (ℕ × ℕ)) : Type 0 where
  pub none : first_at old digest ≡ None
  pub there : first_at new digest ≡ Some place
  pub stay : (other : ℕ) (k : ℕ) → first_at old other ≡ Some k → first_at new other ≡ Some k

-- The digest leads to this place, and each digest leads where it led.
pub record LedTo (digest : ℕ) (old new : List (ℕ × ℕ)) (place : ℕ) : Type 0 where
  pub there : first_at old digest ≡ Some place
  pub same : (other : ℕ) → first_at new other ≡ first_at old other

-- The object stands at none of these places.
abbrev pub StandsAtNone : List Made → List ℕ → Made → Type 0
StandsAtNone made places m = (k : ℕ) → Contains places k → slice_get made k ≡ Some m → ⊥

-- What becomes of an object that was looked for at the places that the maps have of its id's digest, among what was made: it stands
-- at none of them and gets this place, or it stands there and places stay.
abbrev pub IsMapped : List Made → ℕ → ℕ → Made → Places → Places → Novelty → Type 0
IsMapped made digest place m old new New = GetsMapped digest place old new × StandsAtNone made (mapped_at old digest) m
IsMapped made digest place m old new Known = SameMapped old new × Contains made m

-- The slot of the digest is free, or the object stands at none of the digest's places.
abbrev pub IsNowhere : List Made → ℕ → Made → Places → Type 0
IsNowhere made digest m places = (slot_at places.slots.items digest ≡ None → ⊥) → StandsAtNone made (places_at places digest) m

-- What becomes of an object that was looked for at the places of its id's digest, among what was made: it is none of that and gets
-- this place, or it stands there and no place is lost.
abbrev pub IsNoted : List Made → ℕ → ℕ → Made → Places → Places → Novelty → Type 0
IsNoted made digest place m old new New = GetsPlace digest place old new × IsNowhere made digest m old
IsNoted made digest place m old new Known = PlacesStay old new × Contains made m

-- A new object is added at the end; one that is known is not added again.
abbrev pub Adds : List Made → Made → List Made → Novelty → Type 0
Adds old m new New = (Contains old m → ⊥) × (new ≡ old ++ m ∷ [])
Adds old m new Known = Contains old m × (new ≡ old)
