-- What becomes of a stream that is read and fed, command by command.
use Rattle.std.specs.Prelude.{◌≡◌, ◌≢◌, ◌⊎◌, ℕ, ◌≤◌, ◌+◌, false, Option, List, [], ◌++◌, length, Result, Ok}
use Rattle.std.specs.List.{AllByRecursion}
use Rattle.swh_base.specs.declared.kind.Kind.{Kind}
use Rattle.swh_base.specs.declared.kind.Kind.TheVariants.{Snapshot}
use Rattle.swh_base.specs.declared.entry.Entry.{Entry}
use Rattle.swh_outside.specs.Faults.{Rose}
use Rattle.swh_fastrows.specs.declared.fail.ReadFail.{ReadFail}
use Rattle.swh_fastrows.specs.declared.fail.ReadFail.TheVariants.{BadStream as BadRead, ReadFault as SourceFailed, Limit as PassesLimit, Memory as ReadMemory}
use Rattle.swh_fastrows.specs.Outcome.{IsStreamWithin}
use Rattle.swh_fastgrammar.specs.declared.command.Command.{Command}
use Rattle.swh_fastlex.specs.declared.source.TheConstants.{WINDOW}
use Rattle.swh_fastrows.specs.Places.{ReaderState, Position, left}
use Rattle.swh_fastread.specs.Steps.{IsStreamBefore, done_line}
use Rattle.swh_fastload.specs.declared.bad.BadStream.TheVariants.{Stream, Limit}
use Rattle.swh_fastload.specs.declared.bad.InputFault.{InputFault}
use Rattle.swh_fastload.specs.declared.bad.InputFault.TheVariants.{Bad, ReadFault, Memory}
use Rattle.swh_fastmeaning.specs.declared.feed_fault.FeedFault.{FeedFault}
use Rattle.swh_fastmeaning.specs.declared.feed_fault.FeedFault.TheVariants.{BadStream as BadFeed, Limit as PassesBody, Memory as FeedMemory}
use Rattle.swh_fastmeaning.specs.Feeding.{Loading}
use Rattle.swh_dedup.specs.Giving.{AreNew}
use Rattle.swh_fastload.specs.Input.{Breaks, MayBreak}
use Rattle.swh_dedup.specs.Making.{made}
use Rattle.swh_fastload.specs.Progress.{HasLoaded}

-- why an input is refused whose stream is not read on
abbrev pub read_fault : ReadFail → InputFault
read_fault (BadRead at why) = Bad (Stream at why)
read_fault SourceFailed = ReadFault
read_fault (PassesLimit which number) = Bad (Limit which number)
read_fault ReadMemory = Memory

-- why an input is refused of which a command is not carried out
abbrev pub feed_fault : FeedFault → InputFault
feed_fault (BadFeed at why) = Bad (Stream at why)
feed_fault (PassesBody which number) = Bad (Limit which number)
feed_fault FeedMemory = Memory

-- These objects were given, each once and after all that it names, and no snapshot is among them.
pub record HasGiven (id : Kind → List ℕ → List ℕ) (state : Result Loading FeedFault) (objects : List Entry) : Type 0 where
  pub loading : Loading
  pub is : state ≡ Ok loading
  pub given : loading.given ≡ made objects
  pub fresh : AreNew id [] objects
  pub kinds : AllByRecursion (λ e. e.name.kind ≢ Snapshot) objects

-- The text up to this position was carried out, and these are its objects.
pub record HasCome (id : Kind → List ℕ → List ℕ) (text : List ℕ) (rest : Position) (state : Result Loading FeedFault) (objects : List Entry) : Type 0 where
  pub loading : Loading
  pub is : state ≡ Ok loading
  pub loaded : HasLoaded id text rest loading objects

-- The whole text was carried out, and these are its objects.
pub record HasRead (id : Kind → List ℕ → List ℕ) (text : List ℕ) (state : Result Loading FeedFault) (objects : List Entry) : Type 0 where
  pub rest : Position
  pub come : HasCome id text rest state objects
  pub ends : IsStreamWithin rest.at rest.promised rest.left []

-- The text is a stream, and where its reader stands all of it was read, or its line `done` is held.
pub record StopsAtEnd (text : List ℕ) (place : ReaderState) : Type 0 where
  pub commands : List Command
  pub stream : IsStreamBefore 0 false text commands (left place)
  pub held : (left place ≡ []) ⊎ (place.held ≡ done_line)

-- The text is a stream, of which this is left: of what stands behind its last row no more was taken than the line `done` and
-- what a window holds.
pub record ReadsUpTo (text now : List ℕ) : Type 0 where
  pub commands : List Command
  pub ending : List ℕ
  pub stream : IsStreamBefore 0 false text commands ending
  pub front : List ℕ
  pub cut : ending ≡ front ++ now
  pub within : length front ≤ length done_line + WINDOW

-- Why the text of a source is not carried out: it breaks so, which is said of the text where the source tells it; or
-- the source failed, and its count of faults rose from `old` to `new`; or memory ran out.
abbrev pub FailsSo : (Kind → List ℕ → List ℕ) → Type 0 → List ℕ → ℕ → ℕ → InputFault → Type 0
FailsSo id tells text old new (Bad bad) = MayBreak bad × (tells → (head : Option (List ℕ)) → Breaks id head text bad)
FailsSo id tells text old new ReadFault = Rose old new
FailsSo id tells text old new Memory = Unit {0}

-- Why a text that was carried out makes no objects.
abbrev pub BreaksSo : (Kind → List ℕ → List ℕ) → Option (List ℕ) → List ℕ → InputFault → Type 0
BreaksSo id head text (Bad bad) = Breaks id head text bad
BreaksSo id head text ReadFault = ⊥
BreaksSo id head text Memory = Unit {0}

-- No source failed, and where the fault is the input's, some input may break so.
abbrev pub IsQuiet : InputFault → Type 0
IsQuiet (Bad bad) = MayBreak bad
IsQuiet ReadFault = ⊥
IsQuiet Memory = Unit {0}
