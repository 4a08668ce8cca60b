-- The making of an archive: what a made ledger is, and the device calls that make one.
use Rattle.std.specs.Prelude.{◌≡◌, ◌≢◌, ◌⊎◌, ◌<◌, ◌≤◌, ◌==◌, ℕ, Bool, true, false, List, [], ◌∷◌, ◌++◌, length, get_or}
use Rattle.swh_outside.specs.Disk.{Call, Sync, IsAtRest}
use Rattle.swh_outside.specs.Files.{Files, FileCall, Images, EachFilesMoment, on}
use Rattle.swh_format.specs.Record.{Stands}
use Rattle.swh_segment.specs.Settled.{IsSettled}
use Rattle.swh_segment.specs.Calls.{write_calls}

-- a ledger is made where it has 9 bytes or more, and the first is an S
abbrev pub IsMade : List ℕ → Type 0
IsMade bytes = (9 ≤ length bytes) × (get_or bytes 0 0 ≡ 83)

-- a ledger is not made where it has fewer than 9 bytes, or the first is no S
abbrev pub IsNotMade : List ℕ → Type 0
IsNotMade bytes = (length bytes < 9) ⊎ (get_or bytes 0 0 ≢ 83)

-- the first byte is not there, or is an S
abbrev pub needs_clearing : List ℕ → Bool
needs_clearing [] = true
needs_clearing (b ∷ bytes) = b == 83

-- the magic without its first byte, and a closed gate
abbrev pub magic_end : List ℕ
magic_end = 87 ∷ 72 ∷ 65 ∷ 82 ∷ 67 ∷ 49 ∷ 10 ∷ 0 ∷ []

-- a first byte that no made ledger has
abbrev pub clearing : Bool → List Call
clearing true = write_calls 0 (0 ∷ [])
clearing false = []

-- the calls that clear the first byte, where that is needed, and then write the magic with a closed gate
abbrev pub magic_calls : Bool → List Call
magic_calls clears = clearing clears ++ (write_calls 1 magic_end ++ write_calls 0 (83 ∷ []))

-- a barrier on the store, and one on the ledger
abbrev pub barriers : List FileCall
barriers = (1, Sync) ∷ (0, Sync) ∷ []

-- the device calls that make an archive, where the ledger has these bytes
abbrev pub making_calls : List ℕ → List FileCall
making_calls bytes = barriers ++ on 0 (magic_calls (needs_clearing bytes))

-- The ledger among the images is not made, or made with no record.
abbrev pub IsNotMadeOrEmpty : Images → Type 0
IsNotMadeOrEmpty images = IsNotMade (images 0) ⊎ Stands (images 0) []

-- The ledger stands for no record and the store is empty of promises, with nothing written since a barrier.
pub record IsEmptyArchive (files : Files) : Type 0 where
  pub ledger : IsSettled (files 0) [] 8
  pub store : IsAtRest (files 1)

-- What a crash leaves at each device call of the making is not made, or made with no record, where at entry no image
-- is made.
pub record IsCrashSafe (old : Files) : Type 0 where
  pub moments : EachFilesMoment (making_calls (old 0).seen) old IsNotMadeOrEmpty
