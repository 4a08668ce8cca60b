use Rattle.swh_pathwalk.proofs.Steps.{goes_on}
use Rattle.swh_pathwalk.proofs.laws.less_remains_after_a_step.Goals as goal

pub returns : goal.returns
returns c = goes_on
