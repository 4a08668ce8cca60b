-- Entries in memory, in the order of their adding, and what is found of a name among them.
use Rattle.std.specs.Prelude.{◌≡◌, ◌<◌, ℕ, Option, Some, None, List, [], ◌∷◌, ◌++◌, length, get_or}
use Rattle.std.specs.declared.cmp.Ordering.{Ordering}
use Rattle.std.specs.Ordering.{nat_cmp}
use Rattle.std.specs.Cmp.Lexicographic.{slice_cmp}
use Rattle.std.specs.FinMap as finite
use Rattle.swh_base.specs.declared.name.Name.{Name}
use Rattle.swh_base.specs.declared.entry.Entry.{Entry}
use Rattle.swh_model.specs.Archive.{Bodies, body_of}
use Rattle.swh_model.specs.Step.{added}
use Rattle.swh_store.specs.Stored.{Children, Stored, IsEntryOf}

-- how keys are told apart
abbrev pub keys_cmp : List ℕ → List ℕ → Ordering
keys_cmp = slice_cmp nat_cmp

-- the bodies of entries, by their names
abbrev pub bodies_in : List Entry → Bodies
bodies_in = added finite.empty

-- the children of each name once entries were added
abbrev pub with_children : Children → List Entry → Children
with_children children [] = children
with_children children (e ∷ es) = with_children (finite.insert children e.name e.kids) es

-- what entries are as a store
abbrev pub stored_in : List Entry → Stored
stored_in es = record { bodies = bodies_in es; children = with_children finite.empty es }

-- At this place stands the entry of this name.
pub record StandsAt (es : List Entry) (n : Name) (place : ℕ) : Type 0 where
  pub entry : Entry
  pub inside : place < length es
  pub there : entry ≡ get_or es place entry
  pub is : IsEntryOf (stored_in es) n entry

-- At this place stands an entry of this name.
abbrev pub IsNamed : List Entry → Name → ℕ → Type 0
IsNamed es n place = (place < length es) × ((d : Entry) → (get_or es place d).name ≡ n)

-- What is found of a name: nothing where no body is held, else the place of its entry.
abbrev pub IsFound : List Entry → Name → Option ℕ → Type 0
IsFound es n None = body_of (bodies_in es) n ≡ None
IsFound es n (Some place) = StandsAt es n place

-- The entry was new, and stands at the end now.
pub record IsPutIn (before now : List Entry) (e : Entry) : Type 0 where
  pub absent : body_of (bodies_in before) e.name ≡ None
  pub is_last : now ≡ before ++ e ∷ []
