-- Pieces of a file.
use Rattle.std.specs.Prelude.{◌≡◌, ◌+◌, ◌≤◌, ℕ, List, length}
use Rattle.swh_recovery.specs.declared.piece.Piece.{Piece}
use Rattle.swh_recovery.specs.Reading.{window}

-- The file's bytes stand in the piece from its place on.
pub record IsPieceOf (seen : List ℕ) (p : Piece) : Type 0 where
  pub is : p.bytes.items ≡ window seen p.begin (length p.bytes.items)

-- The piece has as many bytes from this place on.
pub record Reaches (p : Piece) (at count : ℕ) : Type 0 where
  pub begins : p.begin ≤ at
  pub ends : at + count ≤ p.begin + length p.bytes.items
