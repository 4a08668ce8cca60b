use Rattle.swh_inputs.proofs.OneInput.{one_way}
use Rattle.swh_inputs.proofs.laws.one_break.Goals as goal

pub returns : goal.returns
returns c = one_way
