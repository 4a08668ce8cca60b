-- At which place of a list a name stands, as slots tell it.
use Rattle.std.specs.Prelude.{◌≡◌, ◌<◌, ◌+◌, ◌%◌, ℕ, suc, List, length, get_or}
use Rattle.std.specs.Int.{w32, from_le_bytes}
use Rattle.swh_base.specs.declared.name.Name.{Name}
use Rattle.swh_postorder.specs.declared.places.Seen.{Seen}
use Rattle.swh_postorder.specs.declared.places.Seen.TheVariants.{Here, Other, Nothing}

-- the number of the first four bytes of a name's id
abbrev pub number_of : Name → ℕ
number_of n = from_le_bytes w32 n.id

-- what the slot of a number has: one more than a place, or zero where it is free; where there are no slots, it is as free
abbrev pub mark_at : List ℕ → ℕ → ℕ
mark_at slots number = get_or slots (number % length slots) 0

-- The name stands at this place.
abbrev pub Stands : List Name → Name → ℕ → Type 0
Stands names n place = (place < length names) × (n ≡ get_or names place n)

-- The slot of a number leads to a place, and the name does not stand there.
abbrev pub TellsOther : List ℕ → List Name → Name → ℕ → Type 0
TellsOther slots names n number = (mark_at slots number ≡ 0 → ⊥) × ((place : ℕ) → mark_at slots number ≡ suc place → Stands names n place → ⊥)

-- What the slot of a number tells of a name: where it stands, that another is meant, or nothing.
abbrev pub Tells : List ℕ → List Name → Name → ℕ → Seen → Type 0
Tells slots names n number (Here place) = (mark_at slots number ≡ suc place) × Stands names n place
Tells slots names n number Other = TellsOther slots names n number
Tells slots names n number Nothing = mark_at slots number ≡ 0

-- None of the first so many slots of a name is free or leads to it.
abbrev pub TellOthers : List ℕ → List Name → Name → ℕ → Type 0
TellOthers slots names n count = (step : ℕ) → step < count → TellsOther slots names n (number_of n + step)

-- One of the first 128 slots of a name leads to this place, at which the name stands; and none before it is free or leads to the name.
abbrev pub Leads : List ℕ → List Name → Name → ℕ → Type 0
Leads slots names n place =
    (step : ℕ) × (step < 128) × (mark_at slots (number_of n + step) ≡ suc place) × Stands names n place × TellOthers slots names n step

-- The slots lead to a place of the name.
abbrev pub IsLed : List ℕ → List Name → Name → Type 0
IsLed slots names n = (place : ℕ) × Leads slots names n place
