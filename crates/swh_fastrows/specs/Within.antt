-- Limits of a stream: which of them what comes first in a text passes, and texts and rows that pass none. A limit that the
-- next line passes by itself counts wherever the line stands; one that is passed inside data counts where data may come.
use Rattle.std.specs.Prelude.{◌≡◌, ◌≢◌, ◌⊎◌, ℕ, ◌+◌, ◌<◌, false, List, [], ◌∷◌, ◌++◌, length, Contains, codes}
use Rattle.swh_base.specs.Limits.{body_limit, line_limit}
use Rattle.swh_base.specs.declared.visit.Which.{Which}
use Rattle.swh_base.specs.declared.visit.Which.TheVariants.{Body, Objects, Bytes, Store, Ledger, Stream, Line, Path, Ref, Refs}
use Rattle.swh_fastlex.specs.Delimited.{AreLines}
use Rattle.swh_fastlex.specs.Line.{IsLine}
use Rattle.swh_fastgrammar.specs.Row.{Row, row_text, text_of, Opens, IsRow, is_comment}
use Rattle.swh_fastlines.specs.Limit.{PassesWords}
use Rattle.swh_fastrows.specs.declared.row_source.TheConstants.{STREAM_LIMIT}

-- The text begins with this line, without its LF.
pub record FirstLine (text line : List ℕ) : Type 0 where
  pub rest : List ℕ
  pub spelled : text ≡ line ++ 10 ∷ rest
  pub one_line : Contains line 10 → ⊥

-- The next line, or the beginning of one, ends after the last byte that a stream may have.
pub record PassesStream (at : ℕ) (text : List ℕ) (number : ℕ) : Type 0 where
  pub front : List ℕ
  pub rest : List ℕ
  pub cut : text ≡ front ++ rest
  pub stretch : IsLine front ⊎ (Contains front 10 → ⊥)
  pub over : STREAM_LIMIT < at + length front
  pub count : number ≡ STREAM_LIMIT + 1

-- The bytes begin with as many as a line may have, no LF is among them, and more follows.
pub record IsLong (text : List ℕ) : Type 0 where
  pub front : List ℕ
  pub rest : List ℕ
  pub cut : text ≡ front ++ rest
  pub no_feed : Contains front 10 → ⊥
  pub long : length front ≡ line_limit
  pub more : rest ≢ []

-- A word of the next line passes this limit. Comments are not asked.
pub record PassesWord (text : List ℕ) (which : Which) (number : ℕ) : Type 0 where
  pub line : List ℕ
  pub first : FirstLine text line
  pub counts : is_comment line ≡ false
  pub passes : PassesWords line which number

-- The next line passes this limit by itself; the text begins at this place of the stream.
abbrev pub LinePasses : ℕ → List ℕ → Which → ℕ → Type 0
LinePasses at text Body number = PassesWord text Body number
LinePasses at text Objects number = ⊥
LinePasses at text Bytes number = ⊥
LinePasses at text Store number = ⊥
LinePasses at text Ledger number = ⊥
LinePasses at text Stream number = PassesStream at text number
LinePasses at text Line number = (number ≡ line_limit + 1) × IsLong text
LinePasses at text Path number = PassesWord text Path number
LinePasses at text Ref number = PassesWord text Ref number
LinePasses at text Refs number = ⊥

-- The next line opens data up to a word, which begin with these lines.
pub record OpensLines (text bytes rest : List ℕ) : Type 0 where
  pub word : List ℕ
  pub first : FirstLine text (codes "data <<" ++ word)
  pub opens : Opens (codes "data <<" ++ word)
  pub lines : AreLines word bytes
  pub cut : first.rest ≡ bytes ++ rest

-- The data begin with lines that are longer than a body may be.
pub record ManyBytes (text : List ℕ) (number : ℕ) : Type 0 where
  pub bytes : List ℕ
  pub rest : List ℕ
  pub opens : OpensLines text bytes rest
  pub above : body_limit < length bytes
  pub count : number ≡ body_limit + 1

-- A line in the data is too long.
pub record LongInside (text : List ℕ) (number : ℕ) : Type 0 where
  pub bytes : List ℕ
  pub rest : List ℕ
  pub opens : OpensLines text bytes rest
  pub long : IsLong rest
  pub count : number ≡ line_limit + 1

-- No row is whole at the text's beginning.
abbrev pub IsCut : List ℕ → Type 0
IsCut text = (row : Row) (next : List ℕ) → text ≡ row_text row ++ next → IsRow row next → ⊥

-- The next row has this many bytes; or the input ends inside it, after this many.
abbrev pub RowEnds : List ℕ → ℕ → Type 0
RowEnds text size = ((row : Row) × (next : List ℕ) × (text ≡ row_text row ++ next) × IsRow row next × (size ≡ length (row_text row))) ⊎ (IsCut text × (size ≡ length text))

-- The next line opens data, and these end after the last byte that a stream may have.
pub record DataOver (at : ℕ) (text : List ℕ) (number : ℕ) : Type 0 where
  pub line : List ℕ
  pub first : FirstLine text line
  pub opens : Opens line
  pub size : ℕ
  pub ends : RowEnds text size
  pub over : STREAM_LIMIT < at + size
  pub count : number ≡ STREAM_LIMIT + 1

-- The data that the next line opens pass this limit.
abbrev pub DataPasses : ℕ → List ℕ → Which → ℕ → Type 0
DataPasses at text Body number = ManyBytes text number
DataPasses at text Objects number = ⊥
DataPasses at text Bytes number = ⊥
DataPasses at text Store number = ⊥
DataPasses at text Ledger number = ⊥
DataPasses at text Stream number = DataOver at text number
DataPasses at text Line number = LongInside text number
DataPasses at text Path number = ⊥
DataPasses at text Ref number = ⊥
DataPasses at text Refs number = ⊥

-- The next line passes no limit by itself.
abbrev pub LineFits : ℕ → List ℕ → Type 0
LineFits at text = (which : Which) (number : ℕ) → LinePasses at text which number → ⊥

-- The data that the next line may open pass no limit.
abbrev pub DataFits : ℕ → List ℕ → Type 0
DataFits at text = (which : Which) (number : ℕ) → DataPasses at text which number → ⊥

-- What comes first passes no limit: neither the next line by itself, nor the data that it may open.
pub record Fits (at : ℕ) (text : List ℕ) : Type 0 where
  pub line : LineFits at text
  pub inside : DataFits at text

-- None of these rows, which `next` follows, passes a limit at its place.
abbrev pub AllFit : ℕ → List Row → List ℕ → Type 0
AllFit at [] next = Unit {0}
AllFit at (row ∷ rows) next = Fits at (text_of (row ∷ rows) ++ next) × AllFit (at + length (row_text row)) rows next
