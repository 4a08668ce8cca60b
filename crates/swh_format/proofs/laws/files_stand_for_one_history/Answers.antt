use Rattle.swh_format.proofs.Unique.{alike}
use Rattle.swh_format.proofs.laws.files_stand_for_one_history.Goals as goal

pub returns : goal.returns
returns c = alike
