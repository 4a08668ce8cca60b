use Rattle.swh_jobs.proofs.Lengths.{front_lem}
use Rattle.swh_jobs.proofs.laws.fault_of_front.Goals as goal

pub returns : goal.returns
returns c = front_lem
