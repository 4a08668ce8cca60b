-- What a reader of commands answers.
use Rattle.std.proofs.Common.{Bool, [], ◌∷◌, refl, Option, Some, None, Result, Ok, Err, IfOk}
use Rattle.swh_fastgrammar.specs.declared.command.Command.{Command}
use Rattle.swh_fastgrammar.specs.Grammar.Item.{Says}
use Rattle.swh_fastrows.specs.declared.fail.ReadFail.{ReadFail}
use Rattle.swh_fastrows.specs.Outcome.{StartsWith}
use Rattle.swh_fastrows.specs.Places.{ReaderState, position}
use Rattle.swh_fastread.specs.Standing.{Standing, Answers}
use Rattle.swh_fastread.specs.Steps.{FindsCommand, FindsNext}
use Rattle.swh_fastread.proofs.Commands.{command_starts}
use Rattle.swh_fastread.proofs.Outcomes.{starts_join}

-- a command behind what was passed starts the text
find_starts : (a c : ReaderState) (p q : Bool) (command : Command) → FindsCommand a c p q command → StartsWith (position a p) (position c q) (command ∷ [])
find_starts a c p q command f =
    let one : StartsWith (position f.first q) (position c q) (command ∷ []) = record { items = Says command ∷ []; starts = (position c q, command_starts f.first c command f.reads q, refl); these = refl } in
    starts_join (position a p) (position f.first q) (position c q) [] (command ∷ []) f.passed one

pub answered : (old new : Standing) (result : Result (Option Command) ReadFail) → IfOk result (FindsNext old.place new.place old.promised new.promised) → IfOk result (Answers old new)
answered old new (Ok None) f = f
answered old new (Ok (Some command)) f = record { rows = f.reads.rows; says = f.reads.says; starts = find_starts old.place new.place old.promised new.promised command f }
answered old new (Err fail) f = tt
