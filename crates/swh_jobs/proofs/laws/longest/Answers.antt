use Rattle.swh_jobs.proofs.Lengths.{longest_lem}
use Rattle.swh_jobs.proofs.laws.longest.Goals as goal

pub returns : goal.returns
returns c = longest_lem
