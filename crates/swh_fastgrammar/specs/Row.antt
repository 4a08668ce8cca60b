-- Rows (git-fast-import(1), comments, data): what a stream is made of. A row is a line, and the raw bytes after it where
-- it opens data. So what is said of rows never sees the bytes inside data.
use Rattle.std.specs.Prelude.{◌≡◌, ◌≢◌, ◌⊎◌, ℕ, Bool, false, ◌==◌, nat_eq, if◌then◌else◌, ◌+◌, List, [], ◌∷◌, ◌++◌, length, Contains, codes}
use Rattle.std.specs.List.{AllByRecursion, flat_map, starts_with}
use Rattle.swh_base.specs.Text.{IsNumber}
use Rattle.swh_fastlex.specs.Delimited.{IsOther, lines_text}

-- a line without its LF, and what stands after the LF
pub record Row : Type 0 where
  pub line : List ℕ
  pub raw : List ℕ

-- the bytes of a row
abbrev pub row_text : Row → List ℕ
row_text row = row.line ++ 10 ∷ row.raw

-- the bytes of some rows
abbrev pub text_of : List Row → List ℕ
text_of rows = flat_map row_text rows

-- whether this is the first byte
abbrev pub begins_with : ℕ → List ℕ → Bool
begins_with c [] = false
begins_with c (d ∷ text) = d == c

-- An LF directly after data belongs to them: these bytes are that LF, or none where none follows.
abbrev pub IsFeed : List ℕ → List ℕ → Type 0
IsFeed feed next = (feed ≡ 10 ∷ []) ⊎ ((feed ≡ []) × (begins_with 10 next ≡ false))

-- a number, and that many bytes
pub record IsCounted (row : Row) (bytes next : List ℕ) : Type 0 where
  pub text : List ℕ
  pub feed : List ℕ
  pub line : row.line ≡ codes "data " ++ text
  pub number : IsNumber text (length bytes)
  pub raw : row.raw ≡ bytes ++ feed
  pub is_feed : IsFeed feed next

-- a delimiter, and the lines before the line that is just the delimiter
pub record IsDelimited (row : Row) (bytes next : List ℕ) : Type 0 where
  pub word : List ℕ
  pub lines : List (List ℕ)
  pub feed : List ℕ
  pub line : row.line ≡ codes "data <<" ++ word
  pub not_empty : word ≢ []
  pub one_line : Contains word 10 → ⊥
  pub each : AllByRecursion (IsOther word) lines
  pub value : bytes ≡ lines_text lines
  pub raw : row.raw ≡ bytes ++ (word ++ 10 ∷ feed)
  pub is_feed : IsFeed feed next

-- The row is data, which end before what follows.
abbrev pub IsData : Row → List ℕ → List ℕ → Type 0
IsData row bytes next = IsCounted row bytes next ⊎ IsDelimited row bytes next

-- Data may follow the line.
abbrev pub Opens : List ℕ → Type 0
Opens line = (raw : List ℕ) × (bytes : List ℕ) × (next : List ℕ) × IsData (record { line = line; raw = raw }) bytes next

-- a line with its data after it where it opens data, else with nothing
pub record IsRow (row : Row) (next : List ℕ) : Type 0 where
  pub one_line : Contains row.line 10 → ⊥
  pub after : ((bytes : List ℕ) × IsData row bytes next) ⊎ ((Opens row.line → ⊥) × (row.raw ≡ []))

-- The rows are these, up to what follows them.
abbrev pub AreRows : List Row → List ℕ → Type 0
AreRows [] next = Unit {0}
AreRows (row ∷ rows) next = IsRow row (text_of rows ++ next) × AreRows rows next

-- a row, and the place of its first byte in the stream
pub record Placed : Type 0 where
  pub at : ℕ
  pub row : Row

-- a line that is skipped
abbrev pub is_comment : List ℕ → Bool
is_comment line = starts_with nat_eq line (codes "#")

-- the rows that count, each at its place
abbrev pub placed : ℕ → List Row → List Placed
placed at [] = []
placed at (row ∷ rows) =
    let rest = placed (at + length (row_text row)) rows in
    if is_comment row.line then rest else record { at = at; row = row } ∷ rest
