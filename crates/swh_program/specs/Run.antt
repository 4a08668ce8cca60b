-- How a run ends whose words are no command, and which part of the outside has failed.
use Rattle.std.specs.Prelude.{◌≡◌, ◌⊎◌, ℕ, List}
use Rattle.swh_words.specs.Words.{Wanted, IsCommand}
use Rattle.swh_exit.specs.Seen.{Span, DepotFailed, DeskFailed, YardFailed, ClockFailed, SinkFailed}
use Rattle.swh_exit.specs.Answers.{TellsDisk}
use Rattle.swh_exit.specs.LeftAlone.{TouchesNothing}
use Rattle.swh_exit.specs.Run.{ComesTo, Ends}
use Rattle.swh_exit.specs.declared.answer.Answer.{Answer}
use Rattle.swh_exit.specs.declared.answer.Answer.TheVariants.{Words, OutsideSource, OutsideFolder, OutsideYard, OutsideClock, Memory}

-- The words are no command.
abbrev pub IsNoCommand : List (List ℕ) → Type 0
IsNoCommand words = (wanted : Wanted) → IsCommand words wanted → ⊥

-- Words that are no command are told, unless memory runs out, with status 2, unless the sink fails; and nothing else is
-- touched.
pub record RefusesWords (s : Span) (status : ℕ) : Type 0 where
  pub ends : Ends (λ answer. (answer ≡ Words) ⊎ (answer ≡ Memory)) s status
  pub comes : ComesTo 2 status
  pub untouched : TouchesNothing s

-- The part that an answer names has failed in this run.
pub record NamesFailed (s : Span) (answer : Answer) : Type 0 where
  pub disk : TellsDisk answer → DepotFailed s
  pub source : answer ≡ OutsideSource → DeskFailed s
  pub folder : answer ≡ OutsideFolder → DeskFailed s
  pub yard : answer ≡ OutsideYard → YardFailed s
  pub clock : answer ≡ OutsideClock → ClockFailed s

-- Status 4 comes only where a part failed, and where a line names a part, that one.
pub record TellsFailures (s : Span) (status : ℕ) : Type 0 where
  pub some : status ≡ 4 → DepotFailed s ⊎ DeskFailed s ⊎ YardFailed s ⊎ ClockFailed s ⊎ SinkFailed s
  pub named : Ends (NamesFailed s) s status
