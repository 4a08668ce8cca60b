use Rattle.swh_pathwalk.proofs.Steps.{begins}
use Rattle.swh_pathwalk.proofs.laws.all_remains_at_first.Goals as goal

pub returns : goal.returns
returns c = begins
