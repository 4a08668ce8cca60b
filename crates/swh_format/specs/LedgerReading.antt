-- What stands at the front of a ledger's bytes, from a gate on.
use Rattle.std.specs.Prelude.{◌≡◌, ◌≢◌, ℕ, ◌<◌, ◌^◌, List, ◌∷◌, ◌++◌, length}
use Rattle.swh_format.specs.Record.{framed}
use Rattle.swh_format.specs.declared.frame.RecordParts.{RecordParts}

-- The bytes are a record and what is after it.
pub record IsRecordFront (bytes : List ℕ) (p : RecordParts) : Type 0 where
  pub spelled : bytes ≡ framed p.kind p.payload.now ++ p.rest.now
  pub short : length p.payload.now < 2 ^ 32

-- A closed gate is at the front of the bytes.
pub record IsGateClosed (records : List ℕ) : Type 0 where
  pub gate : ℕ
  pub behind : List ℕ
  pub is : records ≡ gate ∷ behind
  pub closed : gate ≢ 1
