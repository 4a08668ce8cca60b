-- What may follow a commit's data, as a reader finds it: the parent, the merges and the changes. Each is read as far as it
-- comes next; whether a line is held then is told with it.
use Rattle.std.specs.Prelude.{◌≡◌, ◌⊎◌, ℕ, Bool, true, false, List, [], ◌∷◌, Option, Some, None, codes}
use Rattle.swh_fastgrammar.specs.declared.command.At.{At}
use Rattle.swh_fastgrammar.specs.declared.command.Change.{Change}
use Rattle.swh_fastgrammar.specs.declared.command.Change.TheVariants.{Set}
use Rattle.swh_fastgrammar.specs.declared.command.Commitish.{Commitish}
use Rattle.swh_fastgrammar.specs.declared.command.Dataref.TheVariants.{Inline}
use Rattle.swh_fastgrammar.specs.declared.command.Start.{Start}
use Rattle.swh_fastgrammar.specs.Grammar.{line_at, placed_line, from, many, change, start_of}
use Rattle.swh_fastgrammar.specs.Row.{Placed}
use Rattle.swh_fastgrammar.specs.Word.{NamesCommit}
use Rattle.swh_fastlines.specs.Reading.{LineSays}
use Rattle.swh_fastrows.specs.declared.fail.ReadFail.{ReadFail}
use Rattle.swh_fastrows.specs.declared.fail.ReadFail.TheVariants.{BadStream, ReadFault, Limit, Memory}
use Rattle.swh_fastrows.specs.Explains.{DataFails, IsClear}
use Rattle.swh_fastrows.specs.Places.{ReaderState, left, Took, Refuses, Counts, Part, position}

-- It is known what comes next: a line is held, or no limit is passed.
abbrev pub IsSure : ReaderState → Bool → Type 0
IsSure place next = (next ≡ true) ⊎ IsClear (position place false)

-- No line that begins the part comes next.
pub record Stopped {X : Type 0} (L : List Placed → X → Type 0) (place : ReaderState) : Type 0 where
  pub refused : Refuses L (left place)
  pub counts : Counts (left place)

-- The parent was read where it comes next.
abbrev pub ReadsFrom : ReaderState → ReaderState → Bool → Option (At Commitish) → Type 0
ReadsFrom old new next None = Took old new [] × (IsSure new next → Stopped from new)
ReadsFrom old new next (Some parent) = Part from old new parent

-- The part was read this often.
pub record ReadsSome {X : Type 0} (L : List Placed → X → Type 0) (old new : ReaderState) (xs : List X) : Type 0 where
  pub rows : List Placed
  pub took : Took old new rows
  pub says : many L rows xs

-- The part was read as often as it comes next.
pub record ReadsAll {X : Type 0} (L : List Placed → X → Type 0) (old new : ReaderState) (next : Bool) (xs : List X) : Type 0 where
  pub some : ReadsSome L old new xs
  pub stopped : IsSure new next → Stopped L new

-- The held line is a change, which was read with what follows it; or it is none, or passes a limit.
abbrev pub FindsChange : ReaderState → ReaderState → Option (At Change) → Type 0
FindsChange old new None = (new ≡ old) × (IsClear (position old false) → Stopped change old)
FindsChange old new (Some a) = Part change old new a

-- The line that is held sets a path to the data that follow it, and these are not given.
pub record LacksInline (old : ReaderState) (fail : ReadFail) : Type 0 where
  pub mode : ℕ
  pub path : List ℕ
  pub text : List ℕ
  pub after : ReaderState
  pub says : (bytes : List ℕ) → LineSays text (Set mode (Inline bytes) path)
  pub took : Took old after (line_at old.at text ∷ [])
  pub fails : DataFails after fail

-- The source failed, or memory ran out.
abbrev pub IsOutside : ReadFail → Type 0
IsOutside (BadStream at why) = ⊥
IsOutside ReadFault = Unit {0}
IsOutside (Limit which number) = ⊥
IsOutside Memory = Unit {0}

-- why a change is not read
abbrev pub ChangeFails : ReaderState → ReadFail → Type 0
ChangeFails old fail = IsOutside fail ⊎ LacksInline old fail

-- Some changes were read, and then one is not.
pub record ChangesFail (old : ReaderState) (fail : ReadFail) : Type 0 where
  pub before : ReaderState
  pub changes : List (At Change)
  pub some : ReadsSome change old before changes
  pub fails : ChangeFails before fail

-- The parent, the merges and the changes were read as far as each comes next.
pub record ReadsTail (old new : ReaderState) (parent : Option (At Commitish)) (merges : List (At Commitish)) (changes : List (At Change)) : Type 0 where
  pub first : ReaderState
  pub second : ReaderState
  pub next : Bool
  pub more : Bool
  pub reads_parent : ReadsFrom old first next parent
  pub reads_merges : ReadsAll (placed_line (codes "merge ") NamesCommit) first second more merges
  pub reads_changes : ReadsAll change second new false changes
  pub none : next ≡ false → more ≡ false
  pub same : next ≡ false → second ≡ first
  pub last : more ≡ false → new ≡ second

-- the same with what a commit starts from
abbrev pub ReadsStart : ReaderState → ReaderState → Start → List (At Commitish) → List (At Change) → Type 0
ReadsStart old new start merges changes = (parent : Option (At Commitish)) × (start ≡ start_of parent) × ReadsTail old new parent merges changes

-- The parent and the merges were read, and then the changes are not.
pub record LacksChange (old : ReaderState) (fail : ReadFail) : Type 0 where
  pub first : ReaderState
  pub second : ReaderState
  pub parent : Option (At Commitish)
  pub merges : List (At Commitish)
  pub reads_parent : ReadsFrom old first true parent
  pub reads_merges : ReadsAll (placed_line (codes "merge ") NamesCommit) first second true merges
  pub fails : ChangesFail second fail

-- why what follows the data is not read
abbrev pub TailFails : ReaderState → ReadFail → Type 0
TailFails old fail = IsOutside fail ⊎ LacksChange old fail
