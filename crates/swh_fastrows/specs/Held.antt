-- The bytes that a reader of rows holds: a line with its LF, or the beginning of one.
use Rattle.std.specs.Prelude.{◌≡◌, ◌≢◌, ◌⊎◌, ℕ, ◌+◌, ◌<◌, ◌≤◌, ◌^◌, Bool, true, false, List, [], ◌∷◌, ◌++◌, Contains, length}
use Rattle.swh_base.specs.Limits.{line_limit}
use Rattle.swh_base.specs.declared.visit.Which.{Which}
use Rattle.swh_fastlines.specs.Limit.{PassesWords}
use Rattle.swh_fastlex.specs.Delimited.{AreLines}
use Rattle.swh_fastlex.specs.Line.{Held, unread, IsLine}
use Rattle.swh_fastlex.specs.declared.source.TheConstants.{WINDOW}
use Rattle.swh_fastlex.specs.declared.fault.DataFault.{DataFault}
use Rattle.swh_fastlex.specs.declared.fault.DataFault.TheVariants.{Failed, Body, Memory}
use Rattle.swh_fastlex.specs.declared.fault.DataFault.TheVariants as Data
use Rattle.swh_fastrows.specs.declared.row_source.TheConstants.{STREAM_LIMIT}
use Rattle.swh_fastrows.specs.declared.ahead.Ahead.{Ahead}
use Rattle.swh_fastrows.specs.Places.{ReaderState}
use Rattle.swh_fastgrammar.specs.Row.{begins_with, is_comment}
use Rattle.swh_fastrows.specs.declared.ahead.Ahead.TheVariants.{Line, End, Long, Over}

-- a line with its LF, or bytes without one
abbrev pub IsHeld : List ℕ → Type 0
IsHeld held = IsLine held ⊎ (Contains held 10 → ⊥)

-- As many bytes show that a line is too long.
abbrev pub held_limit : ℕ
held_limit = line_limit + 1

-- a line and a window: the most bytes that a source gave and that are not read
abbrev pub before_limit : ℕ
before_limit = line_limit + WINDOW

-- What is held comes before what the window holds; where it is the beginning of a line, and no longer than a line may be,
-- nothing follows it.
pub record Holds (tells : Type 0) (at : ℕ) (held : List ℕ) (window : Held) (left : List ℕ) : Type 0 where
  pub shape : IsHeld held
  pub short : length held ≤ held_limit
  pub counted : window.place ≡ at + length held
  pub within : window.place ≤ 2 ^ 33
  pub few : length held + length window.bytes ≤ before_limit
  pub at_end : tells → 0 < length held → length held < held_limit → (Contains held 10 → ⊥) → unread window left ≡ []

-- what the held bytes are
abbrev pub IsAhead : ℕ → List ℕ → Ahead → Type 0
IsAhead at held Line = IsLine held × (at + length held ≤ STREAM_LIMIT) × (length held ≤ line_limit)
IsAhead at held End = (Contains held 10 → ⊥) × (length held ≤ line_limit) × (at + length held ≤ STREAM_LIMIT)
IsAhead at held Long = IsHeld held × (length held ≡ held_limit) × (at + length held ≤ STREAM_LIMIT)
IsAhead at held Over = (STREAM_LIMIT < at + length held) × IsHeld held

-- Nothing follows the held beginning of a line that is no longer than a line may be.
abbrev pub EndsHeld : ReaderState → Type 0
EndsHeld place = length place.held < held_limit → (Contains place.held 10 → ⊥) → place.rest ≡ []

-- The line that is held is not skipped.
abbrev pub HeldCounts : List ℕ → Type 0
HeldCounts held = (line : List ℕ) → held ≡ line ++ 10 ∷ [] → is_comment line ≡ false

-- No word of the line that is held passes a limit.
abbrev pub HeldFits : List ℕ → Type 0
HeldFits held = (line : List ℕ) → held ≡ line ++ 10 ∷ [] → (which : Which) (number : ℕ) → PassesWords line which number → ⊥

-- Fewer bytes were left than were wanted. All of them are passed.
pub record IsShort (count : ℕ) (old new : ReaderState) : Type 0 where
  pub short : length old.rest < count
  pub here : new.at ≡ old.at + length old.rest

-- An LF was next and is passed, or none was next.
abbrev pub IsFed : ReaderState → ReaderState → Bool → Type 0
IsFed old new true = (old.rest ≡ 10 ∷ new.rest) × (new.at ≡ old.at + 1)
IsFed old new false = (new.rest ≡ old.rest) × (begins_with 10 old.rest ≡ false) × (new.at ≡ old.at)

-- A whole line that counts is held, within the limits of the stream, of lines, and of the words in it.
pub record IsNext (place : ReaderState) : Type 0 where
  pub line : IsLine place.held
  pub counts : HeldCounts place.held
  pub fits : HeldFits place.held
  pub within : place.at + length place.held ≤ STREAM_LIMIT
  pub short : length place.held ≤ line_limit

-- What is held has no LF, nothing follows it, and it is within the limits of the stream and of lines.
pub record EndsNext (place : ReaderState) : Type 0 where
  pub no_feed : Contains place.held 10 → ⊥
  pub nothing : place.rest ≡ []
  pub short : length place.held ≤ line_limit
  pub within : place.at + length place.held ≤ STREAM_LIMIT

-- These lines are passed, and the line of the word after them.
pub record TakesLines (old new : ReaderState) (word bytes : List ℕ) : Type 0 where
  pub cut : old.rest ≡ (bytes ++ (word ++ 10 ∷ [])) ++ new.rest
  pub here : new.at ≡ old.at + length (bytes ++ (word ++ 10 ∷ []))

-- The lines end before the line of the word: what is left is lines, and a front of one more, within the limits. All of it
-- is passed.
pub record CutsLines (old new : ReaderState) (word : List ℕ) (limit : ℕ) : Type 0 where
  pub bytes : List ℕ
  pub front : List ℕ
  pub lines : AreLines word bytes
  pub within : length bytes ≤ limit
  pub short : length front ≤ line_limit
  pub all : old.rest ≡ bytes ++ front
  pub no_feed : Contains front 10 → ⊥
  pub here : new.at ≡ old.at + length old.rest

-- Lines are passed, and of the next as many bytes as a line may have, with no LF. More follows.
pub record LongLine (old new : ReaderState) (word : List ℕ) : Type 0 where
  pub bytes : List ℕ
  pub front : List ℕ
  pub lines : AreLines word bytes
  pub no_feed : Contains front 10 → ⊥
  pub long : length front ≡ line_limit
  pub cut : old.rest ≡ (bytes ++ front) ++ new.rest
  pub more : new.rest ≢ []

-- Lines were read that together have more bytes than the limit.
pub record ManyLines (old new : ReaderState) (word : List ℕ) (limit : ℕ) : Type 0 where
  pub bytes : List ℕ
  pub lines : AreLines word bytes
  pub above : limit < length bytes
  pub cut : old.rest ≡ bytes ++ new.rest

-- why the lines are not given
abbrev pub LinesFail : ReaderState → ReaderState → List ℕ → ℕ → DataFault → Type 0
LinesFail old new word limit Failed = Unit {0}
LinesFail old new word limit Data.End = CutsLines old new word limit
LinesFail old new word limit Data.Line = LongLine old new word
LinesFail old new word limit Body = ManyLines old new word limit
LinesFail old new word limit Memory = Unit {0}
