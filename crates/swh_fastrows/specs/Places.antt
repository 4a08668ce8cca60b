-- What a reader of rows answers, said of what is left to be read before and after.
use Rattle.std.specs.Prelude.{◌≡◌, ◌⊎◌, ℕ, Bool, true, false, not, ◌==◌, ◌≤◌, ◌+◌, List, [], ◌∷◌, ◌++◌, Option, Some, None, length, Contains, codes}
use Rattle.swh_fastlex.specs.declared.source.TheConstants.{WINDOW}
use Rattle.swh_fastgrammar.specs.Fault.{is_left_out}
use Rattle.swh_fastgrammar.specs.Grammar.{many}
use Rattle.swh_fastgrammar.specs.Row.{Row, row_text, text_of, IsData, IsRow, AreRows, Placed, placed, is_comment}
use Rattle.swh_fastrows.specs.Within.{LineFits, Fits, AllFit}
pub use Rattle.swh_fastrows.specs.Within.{FirstLine}

-- Where a reader of rows stands: the place of the first byte that is to be read, the bytes that it holds, what follows them
-- in its source, how many bytes of this the source gave already, how often it failed, and where it was opened.
pub record ReaderState : Type 0 where
  pub at : ℕ
  pub held : List ℕ
  pub rest : List ℕ
  pub buffered : ℕ
  pub faults : ℕ
  pub path : List ℕ

-- The bytes `now` are `rest` without a front of this many bytes, no more than a window: the reader holds it.
pub record HoldsFront (count : ℕ) (rest now : List ℕ) : Type 0 where
  pub front : List ℕ
  pub cut : rest ≡ front ++ now
  pub counted : length front ≡ count
  pub within : length front ≤ WINDOW

-- what is to be read
abbrev pub left : ReaderState → List ℕ
left place = place.held ++ place.rest

-- These rows were read, and the comments before, between and after them; none passes a limit.
pub record Took (old new : ReaderState) (part : List Placed) : Type 0 where
  pub rows : List Row
  pub spelled : left old ≡ text_of rows ++ left new
  pub good : AreRows rows (left new)
  pub fit : AllFit old.at rows (left new)
  pub those : placed old.at rows ≡ part
  pub here : new.at ≡ old.at + length (text_of rows)

-- The text's first line does not begin this part.
abbrev pub Refuses : {X : Type 0} → (List Placed → X → Type 0) → List ℕ → Type 0
Refuses {X} L text = (p : Placed) (more : List Placed) (x : X) → FirstLine text p.row.line → L (p ∷ more) x → ⊥

-- The text's first line, if it has a whole one, is no comment.
abbrev pub Counts : List ℕ → Type 0
Counts text = (line : List ℕ) → FirstLine text line → is_comment line ≡ false

-- The part was read, and says this.
pub record Part {X : Type 0} (L : List Placed → X → Type 0) (old new : ReaderState) (x : X) : Type 0 where
  pub rows : List Placed
  pub took : Took old new rows
  pub says : L rows x

-- The part does not come next.
pub record Lacks {X : Type 0} (L : List Placed → X → Type 0) (old new : ReaderState) : Type 0 where
  pub took : Took old new []
  pub refused : Refuses L (left new)
  pub counts : Counts (left new)

-- The part was read where it comes next.
abbrev pub OptionalPart : {X : Type 0} → (List Placed → X → Type 0) → ReaderState → ReaderState → Option X → Type 0
OptionalPart L old new None = Lacks L old new
OptionalPart L old new (Some x) = Part L old new x

-- whether the part was read
abbrev pub FoundPart : (List Placed → Unit {0} → Type 0) → ReaderState → ReaderState → Bool → Type 0
FoundPart L old new false = Lacks L old new
FoundPart L old new true = Part L old new tt

-- The part was read as often as it comes next.
pub record ManyParts {X : Type 0} (L : List Placed → X → Type 0) (old new : ReaderState) (xs : List X) : Type 0 where
  pub rows : List Placed
  pub took : Took old new rows
  pub says : many L rows xs
  pub refused : Refuses L (left new)
  pub counts : Counts (left new)

-- A line within the limits comes next that does not begin the part.
pub record LineRefused {X : Type 0} (L : List Placed → X → Type 0) (old : ReaderState) (at : ℕ) (out : Bool) : Type 0 where
  pub before : ReaderState
  pub line : List ℕ
  pub took : Took old before []
  pub first : FirstLine (left before) line
  pub counts : is_comment line ≡ false
  pub here : at ≡ before.at
  pub is_out : is_left_out line ≡ out
  pub fits : LineFits before.at (left before)
  pub refused : Refuses L (left before)

-- No whole line comes next, and no limit is passed.
pub record LineLacks (old : ReaderState) (at : ℕ) : Type 0 where
  pub before : ReaderState
  pub took : Took old before []
  pub fits : LineFits before.at (left before)
  pub no_feed : Contains (left before) 10 → ⊥
  pub here : at ≡ before.at + length (left before)

-- The next line opens data which the end of the input cuts off, and no limit is passed: what is left is no row yet, and
-- would begin with one if some more bytes followed.
pub record DataLacks (old : ReaderState) (at : ℕ) : Type 0 where
  pub before : ReaderState
  pub line : List ℕ
  pub next : List ℕ
  pub more : List ℕ
  pub bytes : List ℕ
  pub took : Took old before []
  pub spelled : left before ≡ line ++ 10 ∷ next
  pub one_line : Contains line 10 → ⊥
  pub fits : Fits before.at (left before)
  pub cut : (row : Row) (other : List ℕ) → left before ≡ row_text row ++ other → IsRow row other → ⊥
  pub filled : let row : Row = record { line = line; raw = next ++ more } in IsData row bytes (codes "done\n")
  pub here : at ≡ before.at + length (left before)

-- where a reader of commands stands: the place, whether `done` was promised, and what is to be read
pub record Position : Type 0 where
  pub at : ℕ
  pub promised : Bool
  pub left : List ℕ

-- the position of a reader at this place, with `done` promised or not
abbrev pub position : ReaderState → Bool → Position
position place promised = record { at = place.at; promised = promised; left = left place }

-- The line is of this word, and its text says this.
abbrev pub SaysLine : {X : Type 0} → List ℕ → (List ℕ → X → Type 0) → List ℕ → X → Type 0
SaysLine word Says line x = (text : List ℕ) × (line ≡ word ++ text) × Says text x

-- The line is not of this word, or its text says nothing.
abbrev pub NeverLine : {X : Type 0} → List ℕ → (List ℕ → X → Type 0) → List ℕ → Type 0
NeverLine {X} word Says line = (text : List ℕ) (x : X) → line ≡ word ++ text → Says text x → ⊥

-- whether no line that begins with these bytes opens data
abbrev pub opens_none : List ℕ → Bool
opens_none [] = false
opens_none (c ∷ word) = not (c == 100)

-- This line may be the first that is no comment: it is the text's first line, or the first line is a comment.
abbrev pub MayCount : List ℕ → List ℕ → Type 0
MayCount text line = FirstLine text line ⊎ ((first : List ℕ) × FirstLine text first × (is_comment first ≡ true))
