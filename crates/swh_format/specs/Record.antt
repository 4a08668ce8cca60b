-- The records of a ledger, and the files that stand for them.
use Rattle.std.specs.Prelude.{◌≡◌, ◌≢◌, ◌^◌, ◌<◌, ◌⊎◌, ℕ, List, [], ◌∷◌, ◌++◌, length}
use Rattle.std.specs.Int.{w32, to_be_bytes}

-- a record: its kind and its payload
pub record Record : Type 0 where
  pub kind : ℕ
  pub payload : List ℕ

-- a kind, the payload's length in four bytes, the highest first, and the payload
unfoldable pub framed : ℕ → List ℕ → List ℕ
framed kind payload = kind ∷ (to_be_bytes w32 (length payload) ++ payload)

-- what stands after a record's gate
abbrev pub body : Record → List ℕ
body r = framed r.kind r.payload

-- how a made ledger begins
abbrev pub magic : List ℕ
magic = 83 ∷ 87 ∷ 72 ∷ 65 ∷ 82 ∷ 67 ∷ 49 ∷ 10 ∷ []

-- records with open gates
abbrev pub coded : List Record → List ℕ
coded [] = []
coded (r ∷ rs) = 1 ∷ body r ++ coded rs

-- the file up to the gate after the records
abbrev pub front : List Record → List ℕ
front rs = magic ++ coded rs

-- A file stands for these records: a closed gate stands after them, and then anything.
pub record Stands (file : List ℕ) (rs : List Record) : Type 0 where
  pub gate : ℕ
  pub closed : gate ≢ 1
  pub rest : List ℕ
  pub split : file ≡ front rs ++ gate ∷ rest

-- The ledger stands for the records, with one more or without.
abbrev pub with_or_without : List Record → Record → List ℕ → Type 0
with_or_without rs r file = Stands file rs ⊎ Stands file (rs ++ r ∷ [])

-- bytes that are written for a record: what stands after its gate, and the next gate
pub record IsReady (bytes : List ℕ) (r : Record) : Type 0 where
  pub is : bytes ≡ body r ++ 0 ∷ []

-- the lengths of their payloads can be told
abbrev pub HaveCodableLengths : List Record → Type 0
HaveCodableLengths [] = Unit {0}
HaveCodableLengths (r ∷ rs) = (length r.payload < 2 ^ 32) × HaveCodableLengths rs
