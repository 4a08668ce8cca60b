-- Paths in a stream (git-fast-import(1), filemodify): what a path has to be, and how a text spells one.
use Rattle.std.specs.Prelude.{◌≡◌, ◌≢◌, ◌⊎◌, ◌==◌, ◌<◌, ◌≤◌, ◌+◌, ◌*◌, ℕ, if◌then◌else◌, Option, Some, None, List, [], ◌∷◌, ◌++◌, length, map, Contains, codes}
use Rattle.std.specs.List.{flat_map, slice_split, AllByRecursion}
use Rattle.swh_base.specs.Limits.{path_limit}

-- a component is not empty, is neither `.` nor `..`, and has no NUL
pub record IsComponent (name : List ℕ) : Type 0 where
  pub some : name ≢ []
  pub not_here : name ≢ codes "."
  pub not_above : name ≢ codes ".."
  pub no_nul : Contains name 0 → ⊥

-- what stands between the slashes, and before the first and after the last of them
abbrev pub components : List ℕ → List (List ℕ)
components path = slice_split (λ c. c == 47) path

-- Each part between slashes may be a component. A path of any length is a path; that one is too long is said apart.
abbrev pub IsPath : List ℕ → Type 0
IsPath path = AllByRecursion IsComponent (components path)

-- the byte that a letter after a backslash spells: `\a`, `\b`, `\f`, `\n`, `\r`, `\t`, `\v`, `\\` and `\"`
abbrev pub letter_byte : ℕ → Option ℕ
letter_byte letter =
    if letter == 97 then Some 7 else
    if letter == 98 then Some 8 else
    if letter == 102 then Some 12 else
    if letter == 110 then Some 10 else
    if letter == 114 then Some 13 else
    if letter == 116 then Some 9 else
    if letter == 118 then Some 11 else
    if letter == 92 then Some 92 else
    if letter == 34 then Some 34 else None

-- What spells one byte between quotes: the byte itself, a letter after a backslash, or three octal digits after one.
pub data Piece : Type 0 where
  Itself : ℕ → Piece
  Letter : ℕ → ℕ → Piece
  Octal : ℕ → ℕ → ℕ → Piece

-- the bytes of a piece
abbrev pub piece_text : Piece → List ℕ
piece_text (Itself c) = c ∷ []
piece_text (Letter letter c) = 92 ∷ letter ∷ []
piece_text (Octal a b c) = 92 ∷ (48 + a) ∷ (48 + b) ∷ (48 + c) ∷ []

-- the byte that a piece spells
abbrev pub piece_byte : Piece → ℕ
piece_byte (Itself c) = c
piece_byte (Letter letter c) = c
piece_byte (Octal a b c) = a * 64 + b * 8 + c

-- no quote, backslash or LF stands for itself, and no number is above octal 377
abbrev pub IsPiece : Piece → Type 0
IsPiece (Itself c) = (c ≢ 34) × (c ≢ 92) × (c ≢ 10)
IsPiece (Letter letter c) = letter_byte letter ≡ Some c
IsPiece (Octal a b c) = (a ≤ 3) × (b ≤ 7) × (c ≤ 7)

-- the pieces, and the quote after them
abbrev pub closed_text : List Piece → List ℕ
closed_text pieces = flat_map piece_text pieces ++ 34 ∷ []

-- the spelling is the path in quotes
pub record IsQuoted (spelling path : List ℕ) : Type 0 where
  pub pieces : List Piece
  pub are : AllByRecursion IsPiece pieces
  pub spelled : spelling ≡ 34 ∷ closed_text pieces
  pub means : path ≡ map piece_byte pieces

-- The spelling is the path itself, which does not begin with a quote and ends before the first of the byte `stop`.
pub record IsPlain (stop : ℕ) (spelling path : List ℕ) : Type 0 where
  pub same : path ≡ spelling
  pub no_stop : Contains spelling stop → ⊥
  pub no_quote : (rest : List ℕ) → spelling ≡ 34 ∷ rest → ⊥

-- The spelling is the path, in quotes or as it is.
abbrev pub Spells : ℕ → List ℕ → List ℕ → Type 0
Spells stop spelling path = IsQuoted spelling path ⊎ IsPlain stop spelling path

-- The text begins with a spelling of the path, quoted or plain, then comes the byte `stop`, and then the rest.
pub record SpellsPath (stop : ℕ) (text path rest : List ℕ) : Type 0 where
  pub spelling : List ℕ
  pub cut : text ≡ spelling ++ stop ∷ rest
  pub form : Spells stop spelling path

-- The text, which an LF ends, is a path.
abbrev pub NamesPath : List ℕ → List ℕ → Type 0
NamesPath text path = IsPath path × Spells 10 text path

-- The text begins with a path, which the byte `stop` ends, and then comes the rest.
abbrev pub NamesPathBefore : ℕ → List ℕ → List ℕ → List ℕ → Type 0
NamesPathBefore stop text path rest = IsPath path × SpellsPath stop text path rest

-- A quote and the pieces after it spell these bytes, and no further piece follows.
pub record RunsQuoted (text path rest : List ℕ) : Type 0 where
  pub pieces : List Piece
  pub are : AllByRecursion IsPiece pieces
  pub cut : text ≡ 34 ∷ (flat_map piece_text pieces ++ rest)
  pub means : path ≡ map piece_byte pieces
  pub ends : (piece : Piece) (more : List ℕ) → IsPiece piece → rest ≡ piece_text piece ++ more → ⊥

-- The text begins with no quote, and these are its bytes up to the first `stop` or to its end.
pub record RunsPlain (stop : ℕ) (text path rest : List ℕ) : Type 0 where
  pub cut : text ≡ path ++ rest
  pub no_stop : Contains path stop → ⊥
  pub no_quote : (more : List ℕ) → text ≡ 34 ∷ more → ⊥
  pub ends : (rest ≡ []) ⊎ ((more : List ℕ) × (rest ≡ stop ∷ more))

-- the bytes that the front of a text spells, as far as a path may go, and what comes after them
abbrev pub RunsPath : ℕ → List ℕ → List ℕ → List ℕ → Type 0
RunsPath stop text path rest = RunsQuoted text path rest ⊎ RunsPlain stop text path rest

-- The front of the text spells more bytes than a path may have: so many.
pub record PassesPath (stop : ℕ) (text : List ℕ) (number : ℕ) : Type 0 where
  pub path : List ℕ
  pub rest : List ℕ
  pub runs : RunsPath stop text path rest
  pub count : number ≡ length path
  pub above : path_limit < number
