-- Where entries stand, by the slots of their names, and by a map of those that found their slot taken.
use Rattle.std.specs.Prelude.{◌≡◌, ◌⊎◌, ◌<◌, ◌+◌, ◌%◌, ℕ, suc, Option, Some, None, List, [], ◌∷◌, length, get_or}
use Rattle.std.specs.List.{AllByRecursion}
use Rattle.std.specs.Int.{w32, from_be_bytes}
use Rattle.std.specs.BTreeMap.{get}
use Rattle.std.specs.FinMap as finite
use Rattle.swh_base.specs.declared.name.Name.{Name}
use Rattle.swh_base.specs.declared.entry.Entry.{Entry}
use Rattle.swh_base.specs.Name.{IsByte, name_key}
use Rattle.swh_model.specs.Archive.{body_of}
use Rattle.swh_model.specs.Step.{HasItsChildren, AreNew}
use Rattle.swh_store.specs.Entries.{keys_cmp, bodies_in, IsNamed, IsFound}
use Rattle.swh_store.specs.declared.places.Places.{Places}
use Rattle.swh_store.specs.declared.places.Told.{Told}
use Rattle.swh_store.specs.declared.places.Told.TheVariants.{At, Nowhere, Nothing}
use Rattle.swh_store.specs.declared.entries.Held.{Held}

-- the number of a name's slot, of which the remainder by the number of slots is taken
abbrev pub number_of : Name → ℕ
number_of n = from_be_bytes w32 n.id

-- the slot of a name; where there are no slots, one that is not there
abbrev pub slot_of : List ℕ → Name → ℕ
slot_of [] n = 0
slot_of (mark ∷ slots) n = number_of n % length (mark ∷ slots)

-- what a slot has: one more than a place, or zero where it is free; one that is not there leads to the first place
abbrev pub mark_at : List ℕ → ℕ → ℕ
mark_at slots slot = get_or slots slot 1

-- what the slot has that is so many behind that of a name
abbrev pub mark_behind : List ℕ → Name → ℕ → ℕ
mark_behind slots n step = mark_at slots (slot_of slots n + step)

-- A slot tells at which place the name is, that it is nowhere, or nothing.
abbrev pub Tells : List ℕ → List Entry → ℕ → Name → Told → Type 0
Tells slots es slot n (At place) = IsNamed es n place
Tells slots es slot n Nowhere = mark_at slots slot ≡ 0
Tells slots es slot n Nothing = (place : ℕ) → mark_at slots slot ≡ suc place → IsNamed es n place → ⊥

-- None of the first so many slots of a name leads to an entry of this name.
abbrev pub NoneLeads : List ℕ → List Entry → Name → ℕ → Type 0
NoneLeads slots es n count = (step : ℕ) → step < count → (place : ℕ) → mark_behind slots n step ≡ suc place → IsNamed es n place → ⊥

-- None of the first so many slots of a name is free.
abbrev pub AreTaken : List ℕ → Name → ℕ → Type 0
AreTaken slots n count = (step : ℕ) → step < count → mark_behind slots n step ≡ 0 → ⊥

-- A slot of the name is free, and none before it leads to an entry of this name.
abbrev pub IsNowhere : List ℕ → List Entry → Name → Type 0
IsNowhere slots es n = (step : ℕ) × (step < 4) × (mark_behind slots n step ≡ 0) × NoneLeads slots es n step

-- what all four slots of a name tell
abbrev pub TellAll : List ℕ → List Entry → Name → Told → Type 0
TellAll slots es n (At place) = IsNamed es n place
TellAll slots es n Nowhere = IsNowhere slots es n
TellAll slots es n Nothing = NoneLeads slots es n 4

-- A slot of the name leads to this place, and none before it is free.
abbrev pub IsLedFirst : List ℕ → Name → ℕ → Type 0
IsLedFirst slots n place = (step : ℕ) × (step < 4) × (mark_behind slots n step ≡ suc place) × AreTaken slots n step

-- where the map has the entry of a name
abbrev pub other_at : Places → Name → Option ℕ
other_at places n = get keys_cmp places.others (name_key n)

-- The entry's body is made of bytes, as all is that lies in memory.
abbrev pub HasBytes : Entry → Type 0
HasBytes e = AllByRecursion IsByte e.body

-- No two entries have one name, and their bodies are made of bytes. Where a slot of a name is free, and none before it leads to an entry of the name, there is no
-- such entry; and where none of its slots leads to one, the map says where it is.
pub record IsPlaced (places : Places) (es : List Entry) : Type 0 where
  pub good : AllByRecursion HasItsChildren es
  pub of_bytes : AllByRecursion HasBytes es
  pub new : AreNew finite.empty es
  pub free : (n : Name) → IsNowhere places.slots.items es n → body_of (bodies_in es) n ≡ None
  pub rest : (n : Name) → NoneLeads places.slots.items es n 4 → IsFound es n (other_at places n)

-- Entries are held in their places.
abbrev pub IsIndexed : Held → Type 0
IsIndexed held = IsPlaced held.places held.entries.items

-- As many slots, and those that lead somewhere lead there still.
pub record MarksStay (old new : List ℕ) : Type 0 where
  pub many : length new ≡ length old
  pub each : (slot place : ℕ) → mark_at old slot ≡ suc place → mark_at new slot ≡ suc place

-- Nothing changed but that free slots may be taken.
pub record StaysPut (old new : Places) : Type 0 where
  pub marks : MarksStay old.slots.items new.slots.items
  pub others : (n : Name) → other_at new n ≡ other_at old n

-- A name was led to a place, by a slot, or by the map where all its slots are taken.
pub record IsPut (old new : Places) (n : Name) (place : ℕ) : Type 0 where
  pub marks : MarksStay old.slots.items new.slots.items
  pub leads : IsLedFirst new.slots.items n place ⊎ (AreTaken new.slots.items n 4 × (other_at new n ≡ Some place))
  pub others : (m : Name) → (m ≡ n → ⊥) → other_at new m ≡ other_at old m
