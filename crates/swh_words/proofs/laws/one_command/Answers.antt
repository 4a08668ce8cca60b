use Rattle.swh_words.proofs.Commands as commands
use Rattle.swh_words.proofs.laws.one_command.Goals as goal

pub returns : goal.returns
returns c = commands.one_command
