-- Answers to what words ask for.
use Rattle.std.specs.Prelude.{Result, Ok, Err}
use Rattle.swh_words.specs.declared.command.Command.{Command}
use Rattle.swh_words.specs.declared.command.WordsFault.{WordsFault}
use Rattle.swh_words.specs.declared.command.WordsFault.TheVariants.{Words, Memory}
use Rattle.swh_words.specs.Words.{Wanted, wanted_by}

-- The command is one that is asked for, and the fault `Words` comes only where none is.
abbrev pub Answers : (Wanted → Type 0) → Result Command WordsFault → Type 0
Answers IsAskedFor (Ok command) = IsAskedFor (wanted_by command)
Answers IsAskedFor (Err Words) = (wanted : Wanted) → IsAskedFor wanted → ⊥
Answers IsAskedFor (Err Memory) = Unit {0}
