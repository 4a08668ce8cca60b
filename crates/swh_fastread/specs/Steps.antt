-- What stands at a command's place, and what was passed on the way to it.
use Rattle.std.specs.Prelude.{◌≡◌, ◌⊎◌, ℕ, ◌<◌, ◌≤◌, Bool, List, [], ◌∷◌, ◌++◌, Option, Some, None, codes}
use Rattle.swh_fastgrammar.specs.declared.command.Command.{Command as Said}
use Rattle.swh_fastgrammar.specs.Givable.{IsGivable}
use Rattle.swh_fastgrammar.specs.Grammar.{Item, IsItem, IsCommand}
use Rattle.swh_fastgrammar.specs.Grammar.Item.{Promise as Promises, Nothing as Silent}
use Rattle.swh_fastgrammar.specs.Row.{Placed}
use Rattle.swh_fastread.specs.declared.items.Step.{Step}
use Rattle.swh_fastread.specs.declared.items.Step.TheVariants.{Command, Promise, Nothing, End}
use Rattle.swh_fastrows.specs.declared.row_source.TheConstants.{STREAM_LIMIT}
use Rattle.swh_fastrows.specs.Explains.{Reads}
use Rattle.swh_fastrows.specs.Outcome.{IsStreamWithin, Ended, StartsWith}
use Rattle.swh_fastrows.specs.Places.{ReaderState, left, Took, position}

-- The item was read, and no next line goes on with it.
pub record Whole (old new : ReaderState) (i : Item) : Type 0 where
  pub part : List Placed
  pub took : Took old new part
  pub is_item : IsItem part i
  pub ended : Ended part (left new)

-- Items that are no commands were passed; whether `done` was promised before them and after.
abbrev pub Passed : ReaderState → ReaderState → Bool → Bool → Type 0
Passed old new before after = StartsWith (position old before) (position new after) []

-- The command was read behind what was passed.
pub record FindsCommand (old new : ReaderState) (before after : Bool) (command : Said) : Type 0 where
  pub first : ReaderState
  pub passed : Passed old first before after
  pub reads : Reads IsCommand first new command

-- From this place on the text is a stream of these commands, within the limits, and this stands behind its last row:
-- nothing, or the line `done` and what follows it.
pub record IsStreamBefore (at : ℕ) (promised : Bool) (text : List ℕ) (commands : List Said) (ending : List ℕ) : Type 0 where
  pub stream : IsStreamWithin at promised text commands
  pub ends : stream.stream.ending ≡ ending

-- the line that ends a stream
abbrev pub done_line : List ℕ
done_line = codes "done" ++ 10 ∷ []

-- From here on the stream has no commands. All of it was read; or its line `done` is held, and nothing behind is.
pub record EndsHere (old new : ReaderState) (promised : Bool) : Type 0 where
  pub stream : IsStreamBefore old.at promised (left old) [] (left new)
  pub held : (left new ≡ []) ⊎ (new.held ≡ done_line)

-- What was read where a command may begin: a command, a promise of `done`, a line that says nothing, or the end.
abbrev pub FindsStep : ReaderState → ReaderState → Bool → Step → Type 0
FindsStep old new promised (Command c) = Reads IsCommand old new c
FindsStep old new promised Promise = Whole old new Promises
FindsStep old new promised Nothing = Whole old new Silent
FindsStep old new promised End = EndsHere old new promised

-- the next command, or none
abbrev pub FindsNext : ReaderState → ReaderState → Bool → Bool → Option Said → Type 0
FindsNext old new before after None = EndsHere old new before
FindsNext old new before after (Some c) = FindsCommand old new before after c

-- At least one byte was taken, unless the stream ended here; with a promise, or a line that says nothing, no byte
-- behind the limit of a stream.
abbrev pub Moves : ReaderState → ReaderState → Step → Type 0
Moves old new (Command c) = old.at < new.at
Moves old new Promise = (old.at < new.at) × (new.at ≤ STREAM_LIMIT)
Moves old new Nothing = (old.at < new.at) × (new.at ≤ STREAM_LIMIT)
Moves old new End = Unit {0}

-- the command, where there is one, is one that the grammar can give
abbrev pub StepGivable : Step → Type 0
StepGivable (Command c) = IsGivable c
StepGivable Promise = Unit {0}
StepGivable Nothing = Unit {0}
StepGivable End = Unit {0}
