-- The objects of a batch as they stand in the store, one after another: a kind in a byte, the body's length in eight bytes,
-- the highest first, the id and the body. Children are not written, since the body determines them.
use Rattle.std.specs.Prelude.{◌≡◌, ℕ, ◌<◌, ◌^◌, List, [], ◌∷◌, ◌++◌, length}
use Rattle.std.specs.Int.{w64, to_be_bytes}
use Rattle.swh_base.specs.declared.entry.Entry.{Entry}
use Rattle.swh_base.specs.Name.{kind_number}

-- an object: its kind, its body's length, its id and its body
unfoldable pub coded_entry : Entry → List ℕ
coded_entry e = kind_number e.name.kind ∷ (to_be_bytes w64 (length e.body) ++ (e.name.id ++ e.body))

-- the objects of a batch, one after another
abbrev pub coded_run : List Entry → List ℕ
coded_run [] = []
coded_run (e ∷ es) = coded_entry e ++ coded_run es

-- The id has twenty bytes, and the body's length fits eight.
pub record IsCodableEntry (e : Entry) : Type 0 where
  pub id : length e.name.id ≡ 20
  pub body : length e.body < 2 ^ 64
