use Rattle.swh_fastgrammar.proofs.Examples.{unknown}
use Rattle.swh_fastgrammar.proofs.worked.unknown_line.Goals as goal

pub returns : goal.returns
returns c = unknown
