use Rattle.swh_fastgrammar.proofs.Examples.{abc}
use Rattle.swh_fastgrammar.proofs.worked.data_before_line.Goals as goal

pub returns : goal.returns
returns c = abc
