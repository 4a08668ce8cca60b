-- Names of rows in their order, and at which place a name stands.
use Rattle.std.specs.Prelude.{◌≡◌, ◌≤◌, ℕ, List, Some, Contains, length, map, take, slice_get}
use Rattle.swh_base.specs.declared.name.Name.{Name}
use Rattle.swh_base.specs.declared.entry.Entry.{Entry}

-- the names of entries
abbrev pub names_of : List Entry → List Name
names_of entries = map (λ (e : Entry). e.name) entries

-- The row at this place has the name.
abbrev pub StandsAt : List Name → Name → ℕ → Type 0
StandsAt names n place = slice_get names place ≡ Some n

-- No two rows have one name.
abbrev pub AreDistinct : List Name → Type 0
AreDistinct names = (n : Name) (i j : ℕ) → StandsAt names n i → StandsAt names n j → i ≡ j

-- The first `count` rows have each a name of its own, and the row behind them, where there is one, has one of theirs.
pub record AreFresh (names : List Name) (count : ℕ) : Type 0 where
  pub inside : count ≤ length names
  pub distinct : AreDistinct (take count names)
  pub twice : (n : Name) → StandsAt names n count → Contains (take count names) n
