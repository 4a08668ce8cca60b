-- The names in the list of a folder.
use Rattle.std.specs.Prelude.{◌≡◌, ◌↔◌, ℕ, true, List, Contains, map, string_bytes}
use Rattle.std.specs.BTreeMap.{is_at}
use Rattle.std.specs.Borrow.{Bor}
use Rattle.std.specs.Cmp.Lexicographic.{slice_cmp}
use Rattle.std.specs.List.{list_any}
use Rattle.std.specs.Ordering.{nat_cmp}
use Rattle.swh_outside.specs.declared.folder.Item.{Item}

-- the names of these items, in their order
abbrev pub names_of : List Item → List (List ℕ)
names_of items = map (λ item. string_bytes item.name) items

-- the keys of a set are these names
abbrev pub AreKeys : List (Bor (List ℕ)) → List (List ℕ) → Type 0
AreKeys keys names = (name : List ℕ) → (list_any (is_at (λ (key : Bor (List ℕ)). slice_cmp nat_cmp name key.now)) keys ≡ true) ↔ Contains names name
