-- Events as they stand in the two files: each a record of the ledger and, for a batch, a run of the store.
use Rattle.std.specs.Prelude.{◌≡◌, ℕ, List, [], ◌∷◌, ◌++◌, Option, Some, None}
use Rattle.swh_format.specs.Record.{Record, Stands, IsReady}

-- an event: its record, and its run where it is a batch
pub record Append : Type 0 where
  pub entry : Record
  pub run : Option (List ℕ)

-- the bytes of a run, of which there may be none
abbrev pub run_bytes : Option (List ℕ) → List ℕ
run_bytes None = []
run_bytes (Some bytes) = bytes

-- the records of events
abbrev pub records : List Append → List Record
records [] = []
records (e ∷ h) = e.entry ∷ records h

-- the bytes of all their runs
abbrev pub runs : List Append → List ℕ
runs [] = []
runs (e ∷ h) = run_bytes e.run ++ runs h

-- Two files stand for a history: the ledger for its records, and the store begins with its runs.
pub record FilesStand (ledger store : List ℕ) (h : List Append) : Type 0 where
  pub ledger_stands : Stands ledger (records h)
  pub rest : List ℕ
  pub store_begins : store ≡ runs h ++ rest

-- what is written for an event: its run and its record
pub record IsWritten (run : Option (List ℕ)) (bytes : List ℕ) (e : Append) : Type 0 where
  pub run_is : run ≡ e.run
  pub entry : IsReady bytes e.entry
