-- The slots of names, and what they tell of where a name stands.
use Rattle.std.specs.Prelude.{◌≡◌, ◌<◌, ◌+◌, ◌%◌, ℕ, suc, List, [], ◌∷◌, length, get_or}
use Rattle.std.specs.Int.{w32, from_be_bytes}
use Rattle.swh_base.specs.declared.name.Name.{Name}
use Rattle.swh_rows.specs.Rows.{StandsAt}
use Rattle.swh_rows.specs.declared.slots.Told.{Told}
use Rattle.swh_rows.specs.declared.slots.Told.TheVariants.{At, Nowhere, Nothing}

-- the number of a name's slot, of which the remainder by the number of slots is taken
abbrev pub number_of : Name → ℕ
number_of n = from_be_bytes w32 n.id

-- the slot of a name; where there are no slots, one that is not there
abbrev pub slot_of : List ℕ → Name → ℕ
slot_of [] n = 0
slot_of (mark ∷ slots) n = number_of n % length (mark ∷ slots)

-- what a slot has: one more than a place, or zero where it is free; one that is not there leads to the first place
abbrev pub mark_at : List ℕ → ℕ → ℕ
mark_at slots slot = get_or slots slot 1

-- what the slot has that is so many behind that of a name
abbrev pub mark_behind : List ℕ → Name → ℕ → ℕ
mark_behind slots n step = mark_at slots (slot_of slots n + step)

-- A slot tells at which place the name stands, that it stands nowhere, or nothing.
abbrev pub Tells : List ℕ → List Name → ℕ → Name → Told → Type 0
Tells slots names slot n (At place) = StandsAt names n place
Tells slots names slot n Nowhere = mark_at slots slot ≡ 0
Tells slots names slot n Nothing = (place : ℕ) → mark_at slots slot ≡ suc place → StandsAt names n place → ⊥

-- None of the first so many slots of a name leads to a row of this name.
abbrev pub NoneLeads : List ℕ → List Name → Name → ℕ → Type 0
NoneLeads slots names n count =
    (step : ℕ) → step < count → (place : ℕ) → mark_behind slots n step ≡ suc place → StandsAt names n place → ⊥

-- None of the first so many slots of a name is free.
abbrev pub AreTaken : List ℕ → Name → ℕ → Type 0
AreTaken slots n count = (step : ℕ) → step < count → mark_behind slots n step ≡ 0 → ⊥

-- A slot of the name is free, and none before it leads to a row of this name.
abbrev pub IsNowhere : List ℕ → List Name → Name → Type 0
IsNowhere slots names n = (step : ℕ) × (step < 4) × (mark_behind slots n step ≡ 0) × NoneLeads slots names n step

-- what all four slots of a name tell
abbrev pub TellAll : List ℕ → List Name → Name → Told → Type 0
TellAll slots names n (At place) = StandsAt names n place
TellAll slots names n Nowhere = IsNowhere slots names n
TellAll slots names n Nothing = NoneLeads slots names n 4

-- A slot of the name leads to this place, and none before it is free.
abbrev pub IsLedFirst : List ℕ → Name → ℕ → Type 0
IsLedFirst slots n place = (step : ℕ) × (step < 4) × (mark_behind slots n step ≡ suc place) × AreTaken slots n step

-- As many slots, and those that lead somewhere lead there still.
pub record MarksStay (old new : List ℕ) : Type 0 where
  pub many : length new ≡ length old
  pub each : (slot place : ℕ) → mark_at old slot ≡ suc place → mark_at new slot ≡ suc place
