-- Names that slots do not find, which a map has in their stead.
use Rattle.std.specs.Prelude.{◌≡◌, ℕ, Option, None, Some, List, Contains}
use Rattle.std.specs.BTreeMap.{BTreeMap, get}
use Rattle.swh_base.specs.declared.name.Name.{Name}
use Rattle.swh_base.specs.Name.{name_cmp}
use Rattle.swh_postorder.specs.Places.{Stands, IsLed}

-- This is a place at which the name stands.
abbrev pub IsFound : List Name → Name → Option ℕ → Type 0
IsFound names n None = ⊥
IsFound names n (Some place) = Stands names n place

-- The map has a place of each of the first names to which the slots do not lead, and of no name to which they do.
pub record AreOthers (slots : List ℕ) (names first : List Name) (others : BTreeMap Name ℕ) : Type 0 where
  pub found : (n : Name) → Contains first n → (IsLed slots names n → ⊥) → IsFound names n (get name_cmp others n)
  pub only : (n : Name) → IsLed slots names n → get name_cmp others n ≡ None
