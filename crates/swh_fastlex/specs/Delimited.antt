-- Data up to a delimiter (git-fast-import(1), data): the lines before the line that is just the delimiter.
use Rattle.std.specs.Prelude.{◌≡◌, ◌≢◌, ◌<◌, ◌≤◌, ◌+◌, ℕ, List, [], ◌∷◌, ◌++◌, Contains, length}
use Rattle.std.specs.List.{AllByRecursion}
use Rattle.swh_base.specs.Limits.{line_limit}
use Rattle.swh_fastlex.specs.declared.fault.DataFault.{DataFault}
use Rattle.swh_fastlex.specs.declared.fault.DataFault.TheVariants.{Failed, End, Line, Body, Memory}
use Rattle.swh_fastlex.specs.declared.fault.LineFault.{LineFault}
use Rattle.swh_fastlex.specs.declared.fault.LineFault.TheVariants as Of
use Rattle.swh_fastlex.specs.Line.{Held, unread, Takes, IsLine}

-- a line that is not the delimiter's
abbrev pub IsOther : List ℕ → List ℕ → Type 0
IsOther word line = (Contains line 10 → ⊥) × (line ≢ word)

-- each line with its LF
abbrev pub lines_text : List (List ℕ) → List ℕ
lines_text [] = []
lines_text (line ∷ lines) = line ++ 10 ∷ lines_text lines

-- a line that is no longer than a line may be, with its LF
abbrev pub IsShortLine : List ℕ → Type 0
IsShortLine line = length line < line_limit

-- The data are lines within the limit of lines, none of which is the delimiter's.
pub record AreLines (word bytes : List ℕ) : Type 0 where
  pub lines : List (List ℕ)
  pub each : AllByRecursion (IsOther word) lines
  pub fit : AllByRecursion IsShortLine lines
  pub value : bytes ≡ lines_text lines

-- What was to be read is lines that are not the delimiter's, and the front of one more, without its LF and no longer than
-- the limit of lines; the front may be empty. All of it is read, and the lines are no longer than the data may be.
pub record IsCutDelimited (word : List ℕ) (limit : ℕ) (before now : Held) (left left_now : List ℕ) : Type 0 where
  pub bytes : List ℕ
  pub front : List ℕ
  pub lines : AreLines word bytes
  pub all : unread before left ≡ bytes ++ front
  pub no_feed : Contains front 10 → ⊥
  pub short : length front ≤ line_limit
  pub within : length bytes ≤ limit
  pub nothing_now : unread now left_now ≡ []
  pub counted : now.place ≡ before.place + (length bytes + length front)

-- Lines that are not the delimiter's were read, and of the next the first bytes, as many as a line may have, among which
-- is no LF. More follows.
pub record HasLongLine (word : List ℕ) (before now : Held) (left left_now : List ℕ) : Type 0 where
  pub bytes : List ℕ
  pub front : List ℕ
  pub lines : AreLines word bytes
  pub no_feed : Contains front 10 → ⊥
  pub long : length front ≡ line_limit
  pub taken : Takes before now left left_now (bytes ++ front)
  pub more : unread now left_now ≢ []

-- Lines that are not the delimiter's were read. With the last of them they are longer than the limit, and without it not.
pub record PassesBody (word : List ℕ) (limit : ℕ) (before now : Held) (left left_now : List ℕ) : Type 0 where
  pub bytes : List ℕ
  pub last : List ℕ
  pub lines : AreLines word (bytes ++ last)
  pub line : IsLine last
  pub within : length bytes ≤ limit
  pub above : limit < length (bytes ++ last)
  pub taken : Takes before now left left_now (bytes ++ last)

-- why no data are given
abbrev pub IsDataFault : List ℕ → ℕ → Held → Held → List ℕ → List ℕ → DataFault → Type 0
IsDataFault word limit before now left left_now Failed = Unit {0}
IsDataFault word limit before now left left_now End = IsCutDelimited word limit before now left left_now
IsDataFault word limit before now left left_now Line = HasLongLine word before now left left_now
IsDataFault word limit before now left left_now Body = PassesBody word limit before now left left_now
IsDataFault word limit before now left left_now Memory = Unit {0}

-- what a fault of a line is among data
abbrev pub data_fault : LineFault → DataFault
data_fault Of.Failed = Failed
data_fault Of.End = End
data_fault Of.Limit = Line
data_fault Of.Memory = Memory
