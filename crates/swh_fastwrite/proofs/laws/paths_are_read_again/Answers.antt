use Rattle.swh_fastwrite.proofs.Quotes.{names_again}
use Rattle.swh_fastwrite.proofs.laws.paths_are_read_again.Goals as goal

pub returns : goal.returns
returns c = names_again
