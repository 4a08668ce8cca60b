use Rattle.swh_swhid.proofs.Values.{read_value}
use Rattle.swh_swhid.proofs.laws.read_is_value.Goals as goal

pub returns : goal.returns
returns c = read_value
