-- Where the row of a name stands, by the slots of the name, and by a map of the names that found all of theirs taken.
use Rattle.std.specs.Prelude.{◌≡◌, ◌⊎◌, ℕ, Option, Some, List}
use Rattle.std.specs.declared.cmp.Ordering.{Ordering}
use Rattle.std.specs.Ordering.{nat_cmp}
use Rattle.std.specs.Cmp.Lexicographic.{slice_cmp}
use Rattle.std.specs.BTreeMap.{get}
use Rattle.swh_base.specs.declared.name.Name.{Name}
use Rattle.swh_base.specs.Name.{name_key}
use Rattle.swh_rows.specs.Rows.{StandsAt, AreDistinct}
use Rattle.swh_rows.specs.Slots.{AreTaken, IsLedFirst, MarksStay}
use Rattle.swh_rows.specs.declared.places.Places.{Places}

-- how keys are told apart
abbrev pub keys_cmp : List ℕ → List ℕ → Ordering
keys_cmp = slice_cmp nat_cmp

-- where the map has the row of a name
abbrev pub other_at : Places → Name → Option ℕ
other_at places n = get keys_cmp places.others (name_key n)

-- A slot of the name leads to this place, or all of them are taken, and the map leads there.
abbrev pub IsLed : Places → Name → ℕ → Type 0
IsLed places n place =
    IsLedFirst places.slots.items n place ⊎ (AreTaken places.slots.items n 4 × (other_at places n ≡ Some place))

-- No two rows have one name, and each name is led to the place of its row.
pub record IsPlaced (places : Places) (names : List Name) : Type 0 where
  pub distinct : AreDistinct names
  pub led : (n : Name) (place : ℕ) → StandsAt names n place → IsLed places n place

-- Nothing changed but that free slots may be taken.
pub record StaysPut (old new : Places) : Type 0 where
  pub marks : MarksStay old.slots.items new.slots.items
  pub others : (n : Name) → other_at new n ≡ other_at old n

-- The name is led to this place, and no other name is led elsewhere than before.
pub record IsPut (old new : Places) (n : Name) (place : ℕ) : Type 0 where
  pub marks : MarksStay old.slots.items new.slots.items
  pub leads : IsLed new n place
  pub others : (m : Name) → (m ≡ n → ⊥) → other_at new m ≡ other_at old m
