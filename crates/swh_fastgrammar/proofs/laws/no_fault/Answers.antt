use Rattle.swh_fastgrammar.proofs.Faults.{no_fault}
use Rattle.swh_fastgrammar.proofs.laws.no_fault.Goals as goal

pub returns : goal.returns
returns c = no_fault
