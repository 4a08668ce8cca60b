-- Why a reader gives no command, or no part of one.
use Rattle.std.specs.Prelude.{◌≡◌, ◌≢◌, ◌⊎◌, ℕ, ◌+◌, nat_lt, Bool, true, false, if◌then◌else◌, List, [], ◌∷◌, ◌++◌, length, Contains, codes}
use Rattle.swh_base.specs.Limits.{body_limit, line_limit}
use Rattle.swh_base.specs.Text.{IsNumber}
use Rattle.swh_base.specs.declared.visit.Which.{Which}
use Rattle.swh_base.specs.declared.visit.Which.TheVariants.{Body, Stream, Line}
use Rattle.swh_fastlex.specs.declared.fault.DataFault.{DataFault}
use Rattle.swh_fastlex.specs.declared.fault.DataFault.TheVariants as Data
use Rattle.swh_fastlex.specs.declared.fault.LineFault.{LineFault}
use Rattle.swh_fastlex.specs.declared.fault.LineFault.TheVariants.{Failed, End as Ends, Limit as Limits, Memory as NoRoom}
use Rattle.swh_fastrows.specs.declared.fail.ReadFail.{ReadFail}
use Rattle.swh_fastrows.specs.declared.fail.ReadFail.TheVariants.{BadStream, ReadFault, Limit, Memory}
use Rattle.swh_fastgrammar.specs.declared.fault.StreamWhy.TheVariants.{Grammar, End, LeftOut, Mark, Branch, Place as Spot}
use Rattle.swh_fastrows.specs.declared.row_source.TheConstants.{STREAM_LIMIT}
use Rattle.swh_fastgrammar.specs.Fault.{is_left_out}
use Rattle.swh_fastgrammar.specs.Grammar.{contents}
use Rattle.swh_fastrows.specs.Held.{EndsNext}
use Rattle.swh_fastrows.specs.Outcome.{IsFaultWithin, PassesFirst}
use Rattle.swh_fastrows.specs.Places.{ReaderState, left, Took, LineRefused, LineLacks, DataLacks, Position, position, MayCount}
use Rattle.swh_fastrows.specs.Within.{FirstLine, LinePasses, DataPasses, LineFits}
use Rattle.swh_fastgrammar.specs.Row.{Opens, Placed, is_comment}

-- After comments the next line passes a limit by itself.
pub record PassesAfter (old : ReaderState) (which : Which) (number : ℕ) : Type 0 where
  pub before : ReaderState
  pub took : Took old before []
  pub passes : LinePasses before.at (left before) which number

-- After comments the next line opens data, which pass a limit.
pub record DataPassesAfter (old : ReaderState) (which : Which) (number : ℕ) : Type 0 where
  pub before : ReaderState
  pub line : List ℕ
  pub took : Took old before []
  pub first : FirstLine (left before) line
  pub opens : Opens line
  pub passes : DataPasses before.at (left before) which number

-- why the part does not come next
abbrev pub PartFails : {X : Type 0} → (List Placed → X → Type 0) → ReaderState → ReadFail → Type 0
PartFails L old (BadStream at Grammar) = LineRefused L old at false
PartFails L old (BadStream at End) = LineLacks old at
PartFails L old (BadStream at LeftOut) = LineRefused L old at true
PartFails L old (BadStream at Mark) = ⊥
PartFails L old (BadStream at Branch) = ⊥
PartFails L old (BadStream at Spot) = ⊥
PartFails L old ReadFault = Unit {0}
PartFails L old (Limit which number) = PassesAfter old which number
PartFails L old Memory = Unit {0}

-- why data do not come next, or are cut off
abbrev pub DataFails : ReaderState → ReadFail → Type 0
DataFails old (BadStream at Grammar) = LineRefused contents old at false
DataFails old (BadStream at End) = LineLacks old at ⊎ DataLacks old at
DataFails old (BadStream at LeftOut) = LineRefused contents old at true
DataFails old (BadStream at Mark) = ⊥
DataFails old (BadStream at Branch) = ⊥
DataFails old (BadStream at Spot) = ⊥
DataFails old ReadFault = Unit {0}
DataFails old (Limit which number) = PassesAfter old which number ⊎ DataPassesAfter old which number
DataFails old Memory = Unit {0}

-- why no command comes next, with no whole command before
abbrev pub Explains : ReaderState → Bool → ReadFail → Type 0
Explains old promised (BadStream at why) = IsFaultWithin old.at promised (left old) [] at why
Explains old promised ReadFault = Unit {0}
Explains old promised (Limit which number) = PassesFirst old.at promised (left old) [] which number
Explains old promised Memory = Unit {0}

-- what is told where the input ends inside data at this place
abbrev pub cut_fail : ℕ → ReadFail
cut_fail at = if nat_lt STREAM_LIMIT at then Limit Stream (STREAM_LIMIT + 1) else BadStream at End

abbrev pub data_fail : LineFault → ℕ → ReadFail
data_fail Failed at = ReadFault
data_fail Ends at = cut_fail at
data_fail Limits at = Limit Body at
data_fail NoRoom at = Memory

abbrev pub lines_fail : DataFault → ℕ → ReadFail
lines_fail Data.Failed at = ReadFault
lines_fail Data.End at = cut_fail at
lines_fail Data.Line at = Limit Line (line_limit + 1)
lines_fail Data.Body at = Limit Body (body_limit + 1)
lines_fail Data.Memory at = Memory

-- The line that is held opens data up to this word.
pub record OpensDelimited (place : ReaderState) (word : List ℕ) : Type 0 where
  pub line : place.held ≡ (codes "data <<" ++ word) ++ 10 ∷ []
  pub not_empty : word ≢ []
  pub one_line : Contains word 10 → ⊥

-- The line that is held opens so many bytes of data.
abbrev pub OpensCounted : ReaderState → ℕ → Type 0
OpensCounted place count = (text : List ℕ) × (place.held ≡ (codes "data " ++ text) ++ 10 ∷ []) × IsNumber text count

-- Nothing is wrong with the grammar here: the source failed, memory ran out, or a limit is passed.
abbrev pub Stops : ReaderState → ReadFail → Type 0
Stops old (BadStream at why) = ⊥
Stops old ReadFault = Unit {0}
Stops old (Limit which number) = PassesAfter old which number
Stops old Memory = Unit {0}

-- The next line is no comment, passes no limit by itself, begins at `at`, and belongs to what is left out exactly where
-- `out` says so.
pub record LineAt (old : ReaderState) (at : ℕ) (out : Bool) : Type 0 where
  pub line : List ℕ
  pub first : FirstLine (left old) line
  pub counts : is_comment line ≡ false
  pub here : at ≡ old.at
  pub is_out : is_left_out line ≡ out
  pub fits : LineFits old.at (left old)

-- what is next, told as a fault
abbrev pub Refusal : ReaderState → ReadFail → Type 0
Refusal old (BadStream at Grammar) = LineAt old at false
Refusal old (BadStream at End) = (Contains (left old) 10 → ⊥) × (at ≡ old.at + length (left old)) × LineFits old.at (left old)
Refusal old (BadStream at LeftOut) = LineAt old at true
Refusal old (BadStream at Mark) = ⊥
Refusal old (BadStream at Branch) = ⊥
Refusal old (BadStream at Spot) = ⊥
Refusal old ReadFault = Unit {0}
Refusal old (Limit which number) = PassesAfter old which number
Refusal old Memory = Unit {0}

abbrev pub line_refusal : List ℕ → ℕ → ReadFail
line_refusal line at = if is_left_out line then BadStream at LeftOut else BadStream at Grammar

-- The next line passes no limit by itself.
abbrev pub IsClear : Position → Type 0
IsClear p = LineFits p.at p.left

-- The part was read, and no next line goes on with it, unless that line passes a limit.
pub record Reads {X : Type 0} (L : List Placed → X → Type 0) (old new : ReaderState) (x : X) : Type 0 where
  pub rows : List Placed
  pub took : Took old new rows
  pub says : L rows x
  pub closed : IsClear (position new false) → (p : Placed) (more : List Placed) (y : X) → MayCount (left new) p.row.line → L (rows ++ p ∷ more) y → ⊥

-- Nothing comes next, or what does passes a limit.
abbrev pub EndsWhole : ReaderState → Type 0
EndsWhole place = EndsNext place ⊎ ((which : Which) × (number : ℕ) × LinePasses place.at (left place) which number)
