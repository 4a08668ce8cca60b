-- The room of the two files that loads take at most, by what their inputs make.
use Rattle.std.specs.Prelude.{ℕ, ◌+◌, ◌*◌, List, length, sum_by}
use Rattle.swh_base.specs.declared.kind.Kind.{Kind}
use Rattle.swh_model.specs.Meaning.{Made}

-- No opening and no mark has a longer record with its gate: a gate, a kind and the payload's length in four bytes; who,
-- in four; a kind of visit or a status; a date or a visit's number, in eight; a snapshot, in 21; and a URL of 2,048.
abbrev pub longest_record : ℕ
longest_record = 2088

-- a batch's record with its gate: a gate, a kind and the payload's length in four bytes; who, in four; where its run
-- begins and where it ends, in eight each; and the number of its objects, in four
abbrev pub batch_record : ℕ
batch_record = 30

-- The most bytes that this many loads add to the ledger, whose inputs make these objects: of each load an opening and
-- two marks, and a batch for each object.
abbrev pub ledger_growth : ℕ → List Made → ℕ
ledger_growth loads objects = loads * (3 * longest_record) + length objects * batch_record

module _ (id_of : Kind → List ℕ → List ℕ) where
  -- an object in the store: its kind, the length of its body in eight bytes, its id and its body
  abbrev pub stored_object : Made → ℕ
  stored_object o = 9 + (length (id_of o.kind o.body) + length o.body)

  -- The most bytes that loads add to the store, whose inputs make these objects: each object stands there once.
  abbrev pub store_growth : List Made → ℕ
  store_growth objects = sum_by stored_object objects
