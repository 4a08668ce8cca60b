use Rattle.swh_fastgrammar.proofs.Streams.{one_reading}
use Rattle.swh_fastgrammar.proofs.laws.one_reading.Goals as goal

pub returns : goal.returns
returns c = one_reading
