use Rattle.swh_revfmt.proofs.Faults.{one_fault_lem}
use Rattle.swh_revfmt.proofs.fault.one_fault.Goals as goal

pub returns : goal.returns
returns c = one_fault_lem
