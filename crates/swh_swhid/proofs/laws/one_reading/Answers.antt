use Rattle.swh_swhid.proofs.Values.{one_value}
use Rattle.swh_swhid.proofs.laws.one_reading.Goals as goal

pub returns : goal.returns
returns c = one_value
