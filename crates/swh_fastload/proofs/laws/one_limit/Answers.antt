use Rattle.swh_fastload.proofs.BreakLaws.{passes_once, makes_once, ends_once, passes_or_makes, passes_or_ends, makes_or_ends}
use Rattle.swh_fastload.proofs.laws.one_limit.Goals as goal

pub returns-clause-text : goal.returns-clause-text
returns-clause-text c = passes_once

pub returns-clause-command : goal.returns-clause-command
returns-clause-command c = makes_once

pub returns-clause-ending : goal.returns-clause-ending
returns-clause-ending c = λ id head text. ends_once id text head

pub returns-clause-text_or_command : goal.returns-clause-text_or_command
returns-clause-text_or_command c = passes_or_makes

pub returns-clause-text_or_ending : goal.returns-clause-text_or_ending
returns-clause-text_or_ending c = λ id head text. passes_or_ends id text head

pub returns-clause-command_or_ending : goal.returns-clause-command_or_ending
returns-clause-command_or_ending c = λ id head text. makes_or_ends id text head
