use Rattle.swh_fastgrammar.proofs.Examples.{left_out}
use Rattle.swh_fastgrammar.proofs.worked.left_out_line.Goals as goal

pub returns : goal.returns
returns c = left_out
