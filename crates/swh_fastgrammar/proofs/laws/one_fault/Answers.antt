use Rattle.swh_fastgrammar.proofs.Before.{one_fault_whole}
use Rattle.swh_fastgrammar.proofs.laws.one_fault.Goals as goal

pub returns : goal.returns
returns c = one_fault_whole
