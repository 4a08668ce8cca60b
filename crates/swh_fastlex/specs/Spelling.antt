-- What the steps of reading a quoted path find.
use Rattle.std.specs.Prelude.{◌≡◌, ◌⊎◌, ◌≤◌, ◌+◌, ◌*◌, ℕ, List, [], ◌∷◌, ◌++◌, length, map, take, drop, Contains}
use Rattle.std.specs.List.{flat_map, AllByRecursion}
use Rattle.swh_fastlex.specs.Path.{Piece, IsPiece, piece_text, piece_byte}

-- the text begins with a piece of this many bytes, which spells this byte
pub record BeginsWithPiece (text : List ℕ) (byte n : ℕ) : Type 0 where
  pub piece : Piece
  pub is : IsPiece piece
  pub spells : byte ≡ piece_byte piece
  pub count : n ≡ length (piece_text piece)
  pub cut : text ≡ piece_text piece ++ drop n text

-- the text begins with three octal digits, which spell this byte
pub record BeginsWithOctal (text : List ℕ) (byte : ℕ) : Type 0 where
  pub high : ℕ
  pub middle : ℕ
  pub low : ℕ
  pub rest : List ℕ
  pub high_small : high ≤ 3
  pub middle_small : middle ≤ 7
  pub low_small : low ≤ 7
  pub spells : byte ≡ high * 64 + middle * 8 + low
  pub cut : text ≡ (48 + high) ∷ (48 + middle) ∷ (48 + low) ∷ rest

-- the text does not begin with three octal digits up to 377
abbrev pub NeverOctal : List ℕ → Type 0
NeverOctal text = (high middle low : ℕ) (rest : List ℕ) → high ≤ 3 → middle ≤ 7 → low ≤ 7 → text ≡ (48 + high) ∷ (48 + middle) ∷ (48 + low) ∷ rest → ⊥

-- Up to here the text is these pieces, and they spell the path so far.
pub record ReadsPieces (text rest path : List ℕ) : Type 0 where
  pub pieces : List Piece
  pub are : AllByRecursion IsPiece pieces
  pub cut : text ≡ flat_map piece_text pieces ++ rest
  pub means : path ≡ map piece_byte pieces

-- This many bytes stand before the first `stop`, or before the end.
pub record IsBefore (stop : ℕ) (text : List ℕ) (n : ℕ) : Type 0 where
  pub within : n ≤ length text
  pub none : Contains (take n text) stop → ⊥
  pub ends : (drop n text ≡ []) ⊎ ((more : List ℕ) × (drop n text ≡ stop ∷ more))
