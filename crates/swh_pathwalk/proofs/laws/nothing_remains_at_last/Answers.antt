use Rattle.swh_pathwalk.proofs.Steps.{ends}
use Rattle.swh_pathwalk.proofs.laws.nothing_remains_at_last.Goals as goal

pub returns : goal.returns
returns c = ends
