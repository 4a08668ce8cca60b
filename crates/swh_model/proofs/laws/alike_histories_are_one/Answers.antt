use Rattle.swh_model.proofs.OneHistory.{one_history}
use Rattle.swh_model.proofs.laws.alike_histories_are_one.Goals as goal

pub returns : goal.returns
returns c = one_history
