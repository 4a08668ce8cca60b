use Rattle.swh_jobs.proofs.Exact.{one_fault_lem}
use Rattle.swh_jobs.proofs.laws.one_fault.Goals as goal

pub returns : goal.returns
returns c = one_fault_lem
