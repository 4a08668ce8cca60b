use Rattle.swh_fastgrammar.proofs.Examples.{promised}
use Rattle.swh_fastgrammar.proofs.worked.promise_not_kept.Goals as goal

pub returns : goal.returns
returns c = promised
