use Rattle.swh_snpfmt.proofs.Exact.{one_fault_lem}
use Rattle.swh_snpfmt.proofs.fault.one_fault.Goals as goal

pub returns : goal.returns
returns c = one_fault_lem
