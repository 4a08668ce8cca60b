use Rattle.swh_api.proofs.CarriedNames.{answered_again}
use Rattle.swh_api.proofs.laws.what_was_answered_loads_back.Goals as goal

pub returns : goal.returns
returns c = answered_again
