-- Where a reader of commands stands, and what it answers.
use Rattle.std.specs.Prelude.{◌≡◌, Bool, List, [], ◌∷◌, Option, Some, None, Result, Ok, Err}
use Rattle.swh_fastgrammar.specs.declared.command.Command.{Command}
use Rattle.swh_fastgrammar.specs.Grammar.{IsCommand}
use Rattle.swh_fastgrammar.specs.Row.{Placed}
use Rattle.swh_fastrows.specs.declared.fail.ReadFail.{ReadFail}
use Rattle.swh_fastread.specs.declared.reader.Ending.{Ending}
use Rattle.swh_fastread.specs.declared.reader.Ending.TheVariants.{Open, AtEnd, Refused}
use Rattle.swh_fastrows.specs.Outcome.{StartsWith}
use Rattle.swh_fastrows.specs.Places.{ReaderState, position}
use Rattle.swh_fastread.specs.Steps.{EndsHere}

-- the place in the stream, whether `done` was promised, and how it ended
pub record Standing : Type 0 where
  pub place : ReaderState
  pub promised : Bool
  pub ending : Ending

-- From the old place on the stream begins with this command, and goes on from the new place; the command is one that
-- the grammar can give.
pub record LeadsOn (old new : Standing) (command : Command) : Type 0 where
  pub rows : List Placed
  pub says : IsCommand rows command
  pub starts : StartsWith (position old.place old.promised) (position new.place new.promised) (command ∷ [])

-- the next command, or none where the stream has none any more
abbrev pub Answers : Standing → Standing → Option Command → Type 0
Answers old new None = EndsHere old.place new.place old.promised
Answers old new (Some command) = LeadsOn old new command

-- how a reader stands after an answer
abbrev pub ending_of : Result (Option Command) ReadFail → Ending
ending_of (Ok (Some command)) = Open
ending_of (Ok None) = AtEnd
ending_of (Err fail) = Refused fail

-- A reader whose stream ended, or was refused, answers the same as before, and stays as it is.
abbrev pub Repeats : Ending → Standing → Standing → Result (Option Command) ReadFail → Type 0
Repeats Open old new result = Unit {0}
Repeats AtEnd old new result = (result ≡ Ok None) × (new ≡ old)
Repeats (Refused fail) old new result = (result ≡ Err fail) × (new ≡ old)
